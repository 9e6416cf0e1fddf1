-- The root is sent on: what is always under way.
use Rattle.std.proofs.Common.{◌≡◌, ◌≢◌, ℕ, suc, false, Some, List, [], ◌∷◌, refl, sym, ◌∙◌, ap, subst, inl}
use Rattle.std.proofs.lemmas.Option.{same_Some}
use Rattle.ghs_graph.specs.declared.key.Key.{Key}
use Rattle.ghs_node.specs.declared.mark.Mark.{Mark}
use Rattle.ghs_node.specs.declared.mark.Mark.TheVariants.{Branch}
use Rattle.ghs_node.specs.declared.message.Message.{Message}
use Rattle.ghs_node.specs.declared.message.Message.TheVariants.{Connect, ChangeRoot}
use Rattle.peer_network.specs.Network.{Network, port_at, At, far, far_port, InNetwork}
use Rattle.peer_network.proofs.lemmas.Wired.{IsWired}
use Rattle.peer_network.specs.Updates.{put}
use Rattle.ghs_protocol.proofs.clauses.Scene.{Seen, add, Member, Scene, End, TreeEnd, tree_end, end, acts, far_end}
use Rattle.ghs_protocol.proofs.clauses.Changes.{left_tree, seen_beyond, pointing, sent_out}
use Rattle.ghs_protocol.proofs.clauses.Rest.{has_call}
use Rattle.ghs_protocol.proofs.clauses.Wiring.{Ground}
use Rattle.ghs_protocol.proofs.clauses.Uniting.{SendsRoot, meet}
use Rattle.ghs_protocol.proofs.clauses.Whole.{Invariant}
use Rattle.ghs_protocol.proofs.clauses.UnderWay.{ProbeAsks, brought_to, ChildBrought, CoreHeard, Lives}
use Rattle.peer_network.proofs.lemmas.Updates.{put_same, put_other}
use Rattle.ghs_protocol.proofs.acts.Ends.{acts_keeps}
use Rattle.ghs_protocol.proofs.root.AtRoot.{AtRoot, at_root, Left, Nothing_left, Report_left}
use Rattle.ghs_protocol.proofs.root.Sent.{by_ports_at}
use Rattle.ghs_protocol.proofs.root.Inward.{at_best, best_apart, best_below}
use Rattle.ghs_protocol.proofs.root.OldLink.{call_append}
use Rattle.ghs_protocol.proofs.rows.Link.{not_the_way, connect_comes}
use Rattle.ghs_protocol.proofs.union.MetByRoot.{connects_meeting}
use Rattle.ghs_protocol.proofs.tests.UnderWay.{near_asks, far_asks, far_brought}
use Rattle.ghs_protocol.proofs.union.UnderWay.{no_name, united_lives}
use Rattle.ghs_protocol.proofs.union.Lower.{SameParts, same_parts, below_new}

-- what the root's other end has before it leaves its level
left_brought : (f : TreeEnd) → Left f → brought_to f.level f.tree ≡ f.level
left_brought f (Nothing_left q) = ap (brought_to f.level) q
left_brought f (Report_left k q b h) = ap (brought_to f.level) q

module _ (g : Network) (wired : IsWired g) (u : ℕ) (u_is : InNetwork g u) (j : ℕ) (at : At g u j) (w : Scene) (holds : Invariant g w)
    (lives : Lives g w) (ms : List Message) (root : AtRoot g w u j ms)
    (b : ℕ) (atb : At g u b) (apart : b ≢ j) (μ : ℕ → Mark) (to : μ b ≡ Branch) (same : (i : ℕ) → i ≢ b → μ i ≡ (w.at u).mark i) (m : Message)
    (no_call : (q : Seen) → has_call q.tree ≡ false → has_call (add q m).tree ≡ false)
    (tree : (q : Seen) → add q m ≡ record q { tree = (add q m).tree })
    -- over the new root link nobody is a child, and it hasn't the coming name
    (unchild : (w.at (far g u b)).mark (far_port g u b) ≡ Branch → (w.at (far g u b)).up ≡ Some (far_port g u b))
    (unnamed : (w.at (far g u b)).mark (far_port g u b) ≡ Branch → (w.at u).coming_name ≢ Some (port_at g u b).key)
    (unnamed' : (w.at (far g u b)).mark (far_port g u b) ≡ Branch → (w.at (far g u b)).coming_name ≢ Some (port_at g u b).key) where
  abbrev x : Member
  x = record (w.at u) { up = Some b; mark = μ }

  abbrev own : ℕ → Seen
  own = left_tree w u j ms

  abbrev still : ℕ → End
  still i = record { port = i; key = (port_at g u i).key; mark = μ i; is = record (w.at u) { up = Some b; mark = μ }; seen = w.seen u i }

  abbrev here : End
  here = record {
    port = j;
    key = (port_at g u j).key;
    mark = μ j;
    is = record (w.at u) { up = Some b; mark = μ };
    seen = record (w.seen u j) { tree = ms };
  }

  abbrev there : End
  there = record (far_end g w u b) { seen = record (seen_beyond g w u b) { tree = (add (seen_beyond g w u b) m).tree } }

  not_way : (i : ℕ) → i ≢ b → Some b ≢ Some i
  not_way i ne e = ne (sym (same_Some b i e))

  away : j ≢ b
  away e = apart (sym e)

  moves :
      (P : End → End → Type 0) → ((v p : ℕ) → At g v p → P (end g w v p) (end g w (far g v p) (far_port g v p))) →
      P here (far_end g w u j) → P (far_end g w u j) here → P (still b) there → P there (still b) →
      ((i : ℕ) → At g u i → i ≢ j → i ≢ b → P (still i) (far_end g w u i)) → ((i : ℕ) → At g u i → i ≢ j → i ≢ b → P (far_end g w u i) (still i)) →
      (v p : ℕ) → At g v p → P (end g (acts g u x own ((b, m) ∷ []) w) v p) (end g (acts g u x own ((b, m) ∷ []) w) (far g v p) (far_port g v p))
  moves P all hit hit' sent sent' miss miss' =
      acts_keeps g wired u u_is.some u_is.node x own ((b, m) ∷ []) w P all
      (by_ports_at g wired u u_is j at w holds ms root b atb apart μ to same m no_call (λ i e f. P e f) hit
      (subst (λ q. P (still b) (record (far_end g w u b) { seen = q })) (sym (tree (seen_beyond g w u b))) sent) miss)
      (by_ports_at g wired u u_is j at w holds ms root b atb apart μ to same m no_call (λ i e f. P f e) hit'
      (subst (λ q. P (record (far_end g w u b) { seen = q }) (still b)) (sym (tree (seen_beyond g w u b))) sent') miss')

  pub moves_lives : Lives g (acts g u (record (w.at u) { up = Some b; mark = μ }) (left_tree w u j ms) ((b, m) ∷ []) w)
  moves_lives = record {
    asks =
        moves ProbeAsks lives.asks (mine j at) (theirs j at) (mine b atb) (theirs b atb) (λ i at' ne ne'. mine i at')
        (λ i at' ne ne'. theirs i at');
    brought =
        moves ChildBrought lives.brought (λ c. absurd (not_way j away c.2))
        (λ c. left_brought (tree_end (far_end g w u j)) root.left ∙ root.top' ∙ sym root.top)
        (λ c. absurd (c.3 (unchild c.1))) (λ c. absurd (c.3 refl))
        (λ i at' ne ne' c. absurd (not_way i ne' c.2))
        (λ i at' ne ne' c. far_brought g wired u u_is j at w holds lives i at' (c.0, sym (same i ne') ∙ c.1, c.2, not_the_way root.up i ne));
    heard =
        moves CoreHeard lives.heard (λ c. absurd (not_way j away c.2)) (λ c. absurd (not_way j away c.3)) (λ c. absurd (unnamed c.1 c.4))
        (λ c. absurd (unnamed' c.0 c.4))
        (λ i at' ne ne' c. absurd (not_way i ne' c.2)) (λ i at' ne ne' c. absurd (not_way i ne' c.3));
  }
    where
      mine : (i : ℕ) → (at' : At g u i) → ProbeAsks (end g w u i) (far_end g w u i)
      mine i at' = near_asks g wired u u_is j at w holds lives i at'

      theirs : (i : ℕ) → (at' : At g u i) → ProbeAsks (far_end g w u i) (end g w u i)
      theirs i at' = far_asks g wired u u_is j at w holds lives i at'

module _ (g : Network) (wired : IsWired g) (u : ℕ) (u_is : InNetwork g u) (w : Scene) (holds : Invariant g w) (lives : Lives g w)
    (j : ℕ) (at : At g u j) (ms : List Message) (b : ℕ) (k : Key) (calls : SendsRoot w u j ms) (best : (w.at u).head.best ≡ Some (b, k))
  where
    root : AtRoot g w u j ms
    root = at_root g wired u u_is j at w holds ms calls

    atb : At g u b
    atb = at_best g wired u u_is j at w holds ms root b k best

    apart : b ≢ j
    apart = best_apart g wired u u_is j at w holds ms root b k best

    -- the root moves on over a Branch link
    module _ (mark : (w.at u).mark b ≡ Branch) where
      open best_below g wired u u_is j at w holds ms root b k best mark use {up as below_way, unnamed, unnamed'}

      pub passes_lives : Lives g (acts g u (pointing (w.at u) b) (left_tree w u j ms) ((b, ChangeRoot) ∷ []) w)
      passes_lives =
          moves_lives g wired u u_is j at w holds lives ms root b atb apart (w.at u).mark mark (λ i ne. refl) ChangeRoot
          (λ q n. call_append ChangeRoot refl q.tree ∙ n)
          (λ q. refl)
          (λ e. below_way) (λ e. unnamed) (λ e. unnamed')

    -- the root goes out
    module _ (mark : (w.at u).mark b ≢ Branch) where
      -- to a fragment that hasn't connected to this one
      pub connects_lives :
          (w.at (far g u b)).mark (far_port g u b) ≢ Branch →
          Lives g (acts g u (sent_out (w.at u) b) (left_tree w u j ms) ((b, Connect (w.at u).head.level) ∷ []) w)
      connects_lives free =
          moves_lives g wired u u_is j at w holds lives ms root b atb apart (put (w.at u).mark b Branch) (put_same (w.at u).mark b Branch)
          (λ i ne. put_other (w.at u).mark b i Branch ne)
          (Connect (w.at u).head.level) (λ q n. call_append (Connect (w.at u).head.level) refl q.tree ∙ n) (λ q. refl) (λ e. absurd (free e))
          (λ e. absurd (free e)) (λ e. absurd (free e))

      -- and meets the Connect of the far end
      module _ (ground : Ground g) (mark' : (w.at (far g u b)).mark (far_port g u b) ≡ Branch) where
        abbrev mid : Scene
        mid = acts g u (sent_out (w.at u) b) (left_tree w u j ms) ((b, Connect (w.at u).head.level) ∷ []) w

        same : SameParts w mid
        same = same_parts g u (sent_out (w.at u) b) (left_tree w u j ms) ((b, Connect (w.at u).head.level) ∷ []) w refl refl refl refl

        met : Lives g mid
        met =
            let came = connect_comes g wired w holds u b atb mark' mark in
            moves_lives g wired u u_is j at w holds lives ms root b atb apart (put (w.at u).mark b Branch) (put_same (w.at u).mark b Branch)
            (λ i ne. put_other (w.at u).mark b i Branch ne)
            (Connect (w.at u).head.level) (λ q n. call_append (Connect (w.at u).head.level) refl q.tree ∙ n) (λ q. refl) (λ e. came.up)
            (λ e. no_name g ground.keyed w holds u b atb mark u u_is)
            (λ e. no_name g ground.keyed w holds u b atb mark (far g u b) (let z = wired.there u b atb in record { some = z.some; node = z.node }))

        pub meets_lives : Lives g (meet g u b (acts g u (sent_out (w.at u) b) (left_tree w u j ms) ((b, Connect (w.at u).head.level) ∷ []) w))
        meets_lives =
            let came = connect_comes g wired w holds u b atb mark' mark in
            united_lives g mid met (mid.at (far g u b)).fragment (mid.at u).fragment (suc (mid.at u).head.level) (Some (port_at g u b).key)
            (λ t it i. inl (below_new g w mid holds same u b came root.top t it i))
            (connects_meeting g ground u u_is w holds j at ms b k calls best mark mark')
