-- A ChangeRoot is taken: the node holds the token of its class then, and is about to move.
use Rattle.std.proofs.Common.{◌≡◌, ◌⊎◌, ℕ, ◌<◌, ◌≤◌, inl, inr, ⊎_elim, Some, None, List, [], ◌∷◌, ◌++◌, refl, sym, ◌∙◌, ap, subst, arith, append-nil}
use Rattle.std.proofs.lemmas.Bool.{cases_eq}
use Rattle.ghs_graph.specs.declared.key.Key.{Key}
use Rattle.ghs_graph.specs.Graph.{Shape, IsGraph}
use Rattle.ghs_graph.specs.Links.{Same}
use Rattle.ghs_graph.proofs.lemmas.Joining.{joined_back}
use Rattle.boruvka_protocol.specs.Levels.{Taken, InClass}
use Rattle.ghs_node.specs.Words.{Best}
use Rattle.peer_network.specs.Network.{Network, network_of, port_at, At, InNetwork, far, far_port}
use Rattle.peer_network.proofs.lemmas.Wired.{IsWired}
use Rattle.peer_network.proofs.lemmas.Graphs.{graph_wired}
use Rattle.peer_network.proofs.lemmas.Updates.{one_place, put_same, put_other, put_at_same, put_at_port, put_at_node, put_at_miss}
use Rattle.peer_network.proofs.lemmas.Wires.{at_in}
use Rattle.peer_machine.specs.Net.{Net, put, take_first}
use Rattle.boruvka_node.specs.declared.message.Message.{Message}
use Rattle.boruvka_node.specs.declared.message.Message.TheVariants.{ChangeRoot}
use Rattle.boruvka_node.specs.State.{State}
use Rattle.boruvka_node.specs.Boruvka.{boruvka}
use Rattle.boruvka_protocol.proofs.invariant.Words.{IsLeast}
use Rattle.boruvka_protocol.proofs.invariant.Sides.{Side, AtPort, at_port, side_of, far_side_of, calls_in, reports_in, passes_in}
use Rattle.boruvka_protocol.proofs.invariant.Nodes.{NodeFits}
use Rattle.boruvka_protocol.proofs.invariant.Search.{BestIsSub}
use Rattle.boruvka_protocol.proofs.invariant.TreeMessages as tree
use Rattle.boruvka_protocol.proofs.invariant.TreeMessages.{PassFits, CallsFit}
use Rattle.boruvka_protocol.proofs.invariant.Token as token
use Rattle.boruvka_protocol.proofs.invariant.Token.{Place, IsTokenAt, In_message, Gone_out, Gone_on, At_end, Token, TokenFits}
use Rattle.boruvka_protocol.proofs.invariant.Whole.{LinkFits, LinksFit, Ground, Fits}
use Rattle.boruvka_protocol.proofs.Unlike.{rest_is_sleeping}
use Rattle.boruvka_protocol.proofs.levels.OneWay.{one_sub, one_port_up}
use Rattle.boruvka_protocol.proofs.rows.Acts.{Acts, fits_like, far_link, links_one}
use Rattle.boruvka_protocol.proofs.rows.Alike.{AsMany}
use Rattle.boruvka_protocol.proofs.rows.Tokens.{TokensStay, token_stays, token_as, tokens_stay, root_as}
use Rattle.boruvka_protocol.proofs.rows.Others.{taken_like, waits_like}
use Rattle.boruvka_protocol.proofs.rows.Kept.{searches_act}
use Rattle.boruvka_protocol.proofs.rows.AboutToMove.{TokensBut, AboutToMove}
use Rattle.boruvka_protocol.proofs.rows.Queues.{passes_called}
use Rattle.boruvka_protocol.proofs.rows.Waits.{ReadsAs, waits_as}

-- a message that is taken is an act by which the node stays as it is
pub acts_took : (g : Network) → IsWired g → (w : Net State Message) (v p : ℕ) (m : Message) (ms : List Message) →
    Acts g w (take_first boruvka g v p m ms w) v (w.node v) (put (w.queue v) p ms) []
acts_took g wired w v p m ms = record {
  node = refl;
  others = λ u ne. refl;
  queue = λ i at. ⊎_elim
      (λ (e : i ≡ p).
      subst (λ y. (take_first boruvka g v p m ms w).queue v y ≡ put (w.queue v) p ms y) (sym e)
      (put_at_same w.queue v p ms ∙ sym (put_same (w.queue v) p ms)))
      (λ ne. put_at_port w.queue v p i ms ne ∙ sym (put_other (w.queue v) p i ms ne))
      (cases_eq i p);
  far_queue = λ i at. put_at_node w.queue v p (far g v i) (far_port g v i) ms (wired.apart v i at) ∙ sym (append-nil _);
  queues = λ u q ne away. put_at_node w.queue v p u q ms ne;
}

module _ (ks : List Key) where
  -- what a ChangeRoot at the head of a queue says; nothing more waits behind it but Names
  pub first_pass : (e f : Side) (rest : List Message) → CallsFit ks e f (ChangeRoot ∷ rest) → PassFits ks e f × (rest ≡ [])
  first_pass e f _ (tree.Passed d) = (d, refl)

  -- and anywhere in it
  pub some_pass : (e f : Side) (x : List Message) → CallsFit ks e f x → 0 < passes_in x → PassFits ks e f
  some_pass e f _ tree.Nothing lt = absurd (omega (arith, lt))
  some_pass e f _ (tree.Chosen k c) lt = absurd (omega (arith, lt))
  some_pass e f _ (tree.Called k name d) lt = absurd (omega (arith, lt))
  some_pass e f _ (tree.Chosen_called j k name c d) lt = absurd (omega (arith, lt))
  some_pass e f _ (tree.Reported k d) lt = absurd (omega (arith, lt))
  some_pass e f _ (tree.Passed d) lt = d

module _ (gr : Shape) (ok : IsGraph gr) (w : Net State Message) (v j : ℕ) (ms : List Message) (at : At (network_of gr) v j)
    (fits : Fits gr.keys (network_of gr) w) (waits : w.queue v j ≡ ChangeRoot ∷ ms) where
  abbrev g : Network
  g = network_of gr

  abbrev ks : List Key
  ks = gr.keys

  wired : IsWired g
  wired = graph_wired gr ok

  here : InNetwork g v
  here = at_in at

  abbrev l : ℕ
  l = (w.node v).head.level

  abbrev n : AtPort
  n = at_port (w.node v) j

  abbrev m : AtPort
  m = at_port (w.node (far g v j)) (far_port g v j)

  abbrev r : List Message
  r = w.queue (far g v j) (far_port g v j)

  -- the net in which it is taken
  abbrev mid : Net State Message
  mid = take_first boruvka g v j ChangeRoot ms w

  abbrev left : ℕ → List Message
  left = put (w.queue v) j ms

  acts : Acts g w mid v (w.node v) left []
  acts = acts_took g wired w v j ChangeRoot ms

  link : LinkFits ks g v j n m (ChangeRoot ∷ ms) r
  link = fits_like g wired ks refl refl waits refl (fits.links v j at)

  link_there : LinkFits ks g (far g v j) (far_port g v j) m n r (ChangeRoot ∷ ms)
  link_there = fits_like g wired ks refl refl refl waits (far_link g wired ks w fits.links v j at)

  first : PassFits ks (side_of g v j n) (far_side_of g v j m) × (calls_in ms ≡ [])
  first = first_pass ks (side_of g v j n) (far_side_of g v j m) (calls_in ms) link.calls

  reads : (q : List Message) → ReadsAs q q
  reads q = record { names = refl; connects = refl; initiates = refl; reports = refl }

  taken : ReadsAs (ChangeRoot ∷ ms) ms
  taken = record { names = refl; connects = refl; initiates = refl; reports = refl }

  near : LinkFits ks g v j n m ms r
  near = waits_as ks g v j n m (ChangeRoot ∷ ms) ms r r link taken (reads r)
      (subst (λ x. CallsFit ks (side_of g v j n) (far_side_of g v j m) x) (sym first.1) tree.Nothing)

  away : LinkFits ks g (far g v j) (far_port g v j) m n r ms
  away = waits_as ks g (far g v j) (far_port g v j) m n r r (ChangeRoot ∷ ms) ms link_there (reads r) taken link_there.calls

  abbrev sent : ℕ → List Message
  sent i = w.queue (far g v i) (far_port g v i) ++ []

  mid_links : LinksFit ks g mid
  mid_links = links_one g wired ks w mid v (w.node v) left [] acts here fits.links j (λ i ne. refl)
      (λ i ne. sym (put_other (w.queue v) j i ms ne)) (λ i ne. sym (append-nil _))
      (fits_like g wired ks refl refl (sym (put_same (w.queue v) j ms)) (sym (append-nil r)) near)
      (fits_like g wired ks refl refl (sym (append-nil r)) (sym (put_same (w.queue v) j ms)) away)

  level : 1 ≤ l
  level = ⊎_elim
      (λ (z : l ≡ 0). absurd (subst (λ x. Taken ks x (port_at g v j).key) z first.0.up.up.link))
      (λ ne. omega (arith, ne))
      (cases_eq l 0)

  node : NodeFits ks v (w.node v)
  node = fits.nodes v here (λ s. rest_is_sleeping (sym first.0.rest ∙ s))

  -- The token.

  -- elsewhere the same waits, and no second ChangeRoot here
  same_there : (y q : ℕ) → ((y ≡ v) × (q ≡ j) → ⊥) → ◌≡◌ {A = ℕ} (passes_in (w.queue y q)) (passes_in (mid.queue y q))
  same_there y q apart = sym (ap (λ x. passes_in x) (put_at_miss w.queue v j y q ms apart))

  none_left : ◌≡◌ {A = ℕ} (passes_in (mid.queue v j)) 0
  none_left = ap (λ x. passes_in x) (put_at_same w.queue v j ms) ∙ sym (passes_called ms) ∙ ap (λ x. passes_in x) first.1

  token_from : TokensStay ks g mid w
  token_from i x place = token_stays ks g mid w i x place refl
      (λ q at_q lt. ⊎_elim
      (λ e.
      let some : 0 < passes_in (mid.queue v j) =
      subst (λ y. 0 < passes_in (mid.queue v y)) e.1 (subst (λ y. 0 < passes_in (mid.queue y q)) e.0 lt) in
      absurd (omega (arith, some, none_left)))
      (λ apart. subst (λ y. 0 < y) (sym (same_there x q apart)) lt)
      (one_place v j x q))
      (λ lv q out. out)
      (λ lv halted. halted)

  token_to : (i x : ℕ) (place : Place) → IsTokenAt ks g w i x place → IsTokenAt ks g mid i x place ⊎ ((l ≡ i) × (x ≡ v))
  token_to i x _ (In_message q at_q lv lt) = ⊎_elim
      (λ e. inr (subst (λ y. (w.node y).head.level ≡ i) e.0 lv, e.0))
      (λ apart. inl (In_message q at_q lv (subst (λ y. 0 < y) (same_there x q apart) lt)))
      (one_place v j x q)
  token_to i x _ (Gone_out q at_q lv out) = inl (Gone_out q at_q lv out)
  token_to i x _ (Gone_on k lt chosen end) = inl (Gone_on k lt chosen end)
  token_to i x _ (At_end lv halted) = inl (At_end lv halted)

  from : (i u : ℕ) → Token ks g mid i u → Token ks g w i u
  from = tokens_stay ks g mid w token_from

  was : Token ks g w l v
  was = record {
    node = v;
    place = token.Waits;
    inside = Same;
    in_network = here;
    at = In_message j at refl (subst (λ x. 0 < passes_in x) (sym waits) (omega arith));
  }

  -- no token of the class is left
  nowhere : Token ks g mid l v → ⊥
  unfolding from was tokens_stay
  nowhere t =
      let same = (fits.tokens.one l v here node.class).one (from l v t) was in
      go t.node t.place t.at same.0 same.1
    where
      at_v : (q : ℕ) → At g v q → 0 < passes_in (mid.queue v q) → ⊥
      at_v q at_q lt = ⊎_elim
          (λ (e : q ≡ j).
          let some : 0 < passes_in (mid.queue v j) = subst (λ y. 0 < passes_in (mid.queue v y)) e lt in omega (arith, some, none_left))
          (λ ne.
          let some : 0 < passes_in (calls_in (w.queue v q)) =
          subst (λ y. 0 < y) (sym (passes_called (w.queue v q) ∙ same_there v q (λ z. ne z.1))) lt in
          let pass = some_pass ks (side_of g v q (at_port (w.node v) q)) (far_side_of g v q (at_port (w.node (far g v q)) (far_port g v q)))
          (calls_in (w.queue v q)) (fits.links v q at_q).calls some in
          ne (one_port_up gr ok l v q j node.class at_q at pass.up first.0.up))
          (cases_eq q j)

      go : (x : ℕ) (place : Place) → IsTokenAt ks g mid l x place → x ≡ v → place ≡ token.Waits → ⊥
      go x _ (In_message q at_q lv lt) e z = at_v q (subst (λ y. At g y q) e at_q) (subst (λ y. 0 < passes_in (mid.queue y q)) e lt)
      go x _ (Gone_out q at_q lv out) e z = cc
      go x _ (Gone_on k lt chosen end) e z = cc
      go x _ (At_end lv halted) e z = cc

  other : (i u : ℕ) → (i ≡ l → InClass ks l v u → ⊥) → TokenFits ks g w i u → TokenFits ks g mid i u
  unfolding from tokens_stay
  other i u apart f = record {
    some = λ x. to (f.some (root_as ks g mid w i u x x.past));
    one = λ s t. f.one (from i u s) (from i u t);
    none = λ t. let x = f.none (from i u t) in root_as ks g w mid i u x x.past;
  }
    where
      to : Token ks g w i u → Token ks g mid i u
      to t = token_as ks g w mid i u t
          (⊎_elim
          (λ x. x)
          (λ e. absurd (apart (sym e.0) (joined_back (subst (λ x. InClass ks l u x) e.1 (subst (λ x. InClass ks x u t.node) (sym e.0) t.inside)))))
          (token_to i t.node t.place t.at))

  tokens : TokensBut ks g mid v
  tokens = record {
    halted = λ u at_u x. let f = fits.tokens.halted u at_u x in record { whole = f.whole; root = f.root; rest = f.rest };
    past = let x = (fits.tokens.one l v here node.class).none was in record { root = x.root; top = x.top; past = x.past };
    none = nowhere;
    one = λ i u at_u proper apart. other i u (λ e way. apart e (subst (λ x. InClass ks x v u) (sym e) way)) (fits.tokens.one i u at_u proper);
  }

  -- What leaves from it or below it.

  abbrev Best_fits : Best → Type 0
  Best_fits b = BestIsSub ks g v (w.node v) (λ i. (w.node (far g v i)).head) (λ i. w.queue v i) b

  record Bound : Type 0 where
    best : ℕ × Key
    is : (w.node v).head.best ≡ Some best
    least : IsLeast ks l v best.1

  bound : Bound
  bound = go (w.node v).head.best refl ((fits.search v here).rest first.0.rest level)
    where
      go : (b : Best) → (w.node v).head.best ≡ b → Best_fits b → Bound
      go None e h = let s = first.0.least.2 in absurd (h s.root s.top first.0.least.0 s.sub.is)
      go (Some b) e h = record {
        best = b;
        is = e;
        least = subst (λ x. IsLeast ks l v x) (one_sub gr ok l v first.0.least.0 b.1 node.class first.0.least.2 h.0) first.0.least.1;
      }

  as_many : (P : List Message → ℕ) → P (ChangeRoot ∷ ms) ≡ P ms → AsMany g P w mid
  as_many P none = waits_like ks g w mid v (w.node v) left [] acts wired here P
      (λ i at_i. taken_like P (w.queue v) j ChangeRoot ms waits none i) (λ i at_i. ap P (sym (append-nil _)))

  -- with the ground, which every event keeps
  pub took : Ground g mid → AboutToMove ks g mid v
  took ground = record {
    ground = ground;
    nodes = λ u at_u. fits.nodes u at_u;
    links = mid_links;
    search = searches_act ks g w mid v (w.node v) left [] acts (λ u. refl) (as_many (λ q. reports_in (calls_in q)) refl) fits.search
        (fits.search v here);
    lacks = λ u at_u. fits.lacks u at_u;
    rest = first.0.rest;
    stays = first.0.stays;
    best = bound.best;
    is = bound.is;
    least = bound.least;
    tokens = tokens;
  }
