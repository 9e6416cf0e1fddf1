-- Where a node halts it is an end of the core of a fragment that no link leaves.
use Rattle.std.proofs.Common.{◌≡◌, ◌≢◌, ℕ, ◌<◌, true, Option, Some, None, List, [], ◌∷◌, length, refl, sym, ◌∙◌, ap, subst, ⊎_elim, ◌⊎◌, inl, inr, arith}
use Rattle.std.proofs.lemmas.Bool.{cases_eq}
use Rattle.ghs_graph.specs.declared.key.Key.{Key}
use Rattle.ghs_node.specs.Words.{below, best_key}
use Rattle.ghs_node.specs.declared.mark.Mark.{Mark}
use Rattle.ghs_node.specs.declared.message.Phase.TheVariants.{Sleeping, Found}
use Rattle.ghs_node.specs.declared.message.Message.{Message}
use Rattle.ghs_node.specs.declared.message.Message.TheVariants.{Report}
use Rattle.ghs_node.specs.declared.delta.Delta.{Delta}
use Rattle.ghs_node.specs.NodeState.{NodeState}
use Rattle.ghs_node.specs.Reaction.{at_wake}
use Rattle.ghs_node.specs.Rows.{AwakeRow, Report_halts}
use Rattle.peer_network.specs.Network.{Network, port_at, At, far, InNetwork}
use Rattle.ghs_protocol.specs.Net.{Net, take_first}
use Rattle.ghs_protocol.specs.Marks.{HasHalted}
use Rattle.ghs_protocol.specs.Steps.{Step, Wakes_up, Takes_one, waking, reacted}
use Rattle.ghs_protocol.proofs.lemmas.Nodes.{ports_many}
use Rattle.ghs_protocol.proofs.lemmas.Sends.{node_here, node_there}
use Rattle.ghs_protocol.proofs.lemmas.WellFormed.{AreNodes}
use Rattle.ghs_protocol.proofs.clauses.Scene.{Ghost, Scene, scene, see, tree_end, end, far_end, forest}
use Rattle.ghs_protocol.proofs.clauses.Fragments.{IsJoinedIn}
use Rattle.ghs_protocol.proofs.clauses.Floors.{lower, Sound}
use Rattle.ghs_protocol.proofs.clauses.Wiring.{Ground}
use Rattle.ghs_protocol.proofs.clauses.Whole.{NamesOf}
use Rattle.ghs_protocol.proofs.rest.Halt.{Back, Old, Half, heard_at_rest}
use Rattle.ghs_protocol.proofs.rows.Link.{joined_in, joined_clauses}
use Rattle.ghs_protocol.proofs.rows.Read.{tree_first}
use Rattle.ghs_protocol.proofs.acts.Floors.{near_fits, far_fits, leads_above, none_lower}
use Rattle.ghs_protocol.proofs.acts.Situations.{begun_at_top}
use Rattle.ghs_protocol.proofs.clauses.Nodes.{IsAtTop}

-- the node has the coming name's link, joined, or no link
pub data AtCore (g : Network) (w : Scene) (v : ℕ) : Type 0 where
  On_core : (p : ℕ) → At g v p → IsJoinedIn g (forest w) v p → (w.at v).coming_name ≡ Some (port_at g v p).key → AtCore g w v
  No_link : ◌≡◌ {A = ℕ} (length (g.ports v)) 0 → (w.at v).coming_name ≡ None → ◌≡◌ {A = ℕ} (w.at v).coming 0 → AtCore g w v

-- no link leaves the fragment of v, and v is at its level and at its core
pub record IsCoreNode (g : Network) (w : Scene) (v : ℕ) : Type 0 where
  pub whole : (t p : ℕ) → At g t p → (w.at t).fragment ≡ (w.at v).fragment → (w.at (far g t p)).fragment ≡ (w.at v).fragment
  pub top : IsAtTop (w.at v)
  pub core : AtCore g w v

-- a row that halts
pub data Halting (n : NodeState) : ℕ → Message → Type 0 where
  By_report : {j : ℕ} → n.head.in_branch ≡ Some j → n.head.phase ≡ Found → n.head.best ≡ None → Halting n j (Report None)

pub halting : {n : NodeState} {j : ℕ} {m : Message} {d : Delta} → AwakeRow n j m d → d.head.halted ≡ true → (n.head.halted ≡ true) ⊎ Halting n j m
halting (Report_halts a b c) e = inr (By_report a b c)
halting _ e = inl e

module _ (g : Network) (ground : Ground g) (w : Scene) (s : Sound g w) (u : ℕ) (u_is : InNetwork g u) where
  -- the last Report comes in
  module _ (j : ℕ) (at : At g u j) (ms : List Message) (waits : (w.seen u j).tree ≡ Report None ∷ ms) (way : (w.at u).head.in_branch ≡ Some j)
      (rests : (w.at u).head.phase ≡ Found) (best : (w.at u).head.best ≡ None) where
    no_key : (o : Option Key) → o ≡ None → below None o ≡ true → ⊥
    no_key o e h = cc

    halts_so : Back (NamesOf g w (w.at u).fragment) (tree_end (end g w u j)) (tree_end (far_end g w u j)) None ms → IsCoreNode g w u
    halts_so (Old c h x) = absurd (let z = h.worse in cc)
    halts_so (Half c z a b n p q) = record {
      whole = λ t i at' same. ⊎_elim (λ e. e) (λ away. absurd (let y = above t i at' same away in cc)) (cases_eq _ _);
      top = begun_at_top (tree_end (end g w u j)) z.here a z.at_here;
      core = On_core j at (joined_in g w u j c.both.joins) c.named;
    }
      where
        here_floor : s.floor u ≡ Some None
        here_floor =
            (near_fits g ground.wired w s.first s.floor s.floors u j at).core c (begun_at_top (tree_end (end g w u j)) z.here a z.at_here) rests
            ∙ ap (λ o. Some (best_key o)) best

        there_floor : s.floor (far g u j) ≡ Some None
        there_floor =
            (far_fits g ground.wired w s.first s.floor s.floors u j at).core
            (record {
              both = record { joins = record { here = c.both.joins.there; there = c.both.joins.here }; up = c.both.up_beyond; up_beyond = c.both.up };
              named = (joined_clauses g w s.first u j at c.both.joins).ghosts.1 ∙ c.named;
            })
            (begun_at_top (tree_end (far_end g w u j)) z.there b z.at_there) p ∙
            ap Some q

        above : (t i : ℕ) →
            At g t i →
            (w.at t).fragment ≡ (w.at u).fragment →
            (w.at (far g t i)).fragment ≢ (w.at u).fragment →
            lower (Some None) (Some (Some (port_at g t i).key)) ≡ true
        above t i at' same away =
            leads_above g ground.wired w s.first s.floor s.floors u j at (joined_in g w u j c.both.joins) c.both.up c.both.up_beyond (Some None)
            (none_lower _ here_floor) (none_lower _ there_floor) (λ e. cc (e, rests)) t i at' same away

    pub report_halts : IsCoreNode g w u
    report_halts =
        halts_so (heard_at_rest g ground.wired u u_is j at w s.first None ms waits rests)

  -- a node without links wakes
  pub lone_halts : (w.at u).head.phase ≡ Sleeping → ◌≡◌ {A = ℕ} (length (g.ports u)) 0 → IsCoreNode g w u
  lone_halts sleeps none =
      let f = (s.first.nodes u u_is).untouched sleeps in
      record {
        whole = λ t p at' same.
            absurd
            (let e = s.first.alone u t u_is (record { some = at'.some; node = at'.node }) sleeps same in
            let lt = subst (λ y. p < length (g.ports y)) e at'.port in omega (arith, lt, none));
        top = f.level ∙ sym f.coming;
        core = No_link none (sym ((s.first.nodes u u_is).lag.name (f.level ∙ sym f.coming)) ∙ f.name) f.coming;
      }

-- who has halted after a step had before, or is then at the core of a whole fragment
module _ (g : Network) (ground : Ground g) (w : Net) (nodes : AreNodes g w) (gh : Ghost) (s : Sound g (scene w gh)) where
  halted_here : (u : ℕ) (d : Delta) (w1 : Net) → HasHalted (reacted g u d w1) u → d.head.halted ≡ true
  halted_here u d w1 h = sym (ap (λ (n : NodeState). n.head.halted) (node_here g u d w1)) ∙ h

  halted_there : (u v : ℕ) (d : Delta) (w1 : Net) → w1.node ≡ w.node → v ≢ u → HasHalted (reacted g u d w1) v → HasHalted w v
  halted_there u v d w1 same ne h =
      sym (ap (λ (n : NodeState). n.head.halted) (node_there g u d w1 v ne ∙ ap (λ (f : ℕ → NodeState). f v) same)) ∙ h

  woke : (u : ℕ) → InNetwork g u → (w.node u).head.phase ≡ Sleeping →
      (ks : List Mark) → (w.node u).marks ≡ ks → (at_wake (w.node u) ks).head.halted ≡ true → HasHalted w u ⊎ IsCoreNode g (scene w gh) u
  woke u u_is sleeps [] e h = inr (lone_halts g ground (scene w gh) s u u_is sleeps (sym (ports_many (nodes u)) ∙ ap length e))
  woke u u_is sleeps (k ∷ ks) e h = inl h

  took : (u j : ℕ) → At g u j → (m : Message) (ms : List Message) → w.queue u j ≡ m ∷ ms → Halting (w.node u) j m → IsCoreNode g (scene w gh) u
  took u j at _ ms q (By_report way rests best) =
      report_halts g ground (scene w gh) s u (record { some = at.some; node = at.node }) j at (see ms).tree
      (tree_first (w.queue u j) ms (Report None) refl q) way rests best

  pub step_halts : (w' : Net) → Step g w w' → (v : ℕ) → HasHalted w' v → HasHalted w v ⊎ IsCoreNode g (scene w gh) v
  step_halts _ (Wakes_up u lo hi sleeps) v h =
      ⊎_elim
      (λ (e : v ≡ u).
      subst (λ y. HasHalted w y ⊎ IsCoreNode g (scene w gh) y) (sym e)
      (woke u (record { some = lo; node = hi }) sleeps (w.node u).marks refl
      (halted_here u (waking (w.node u)) w (subst (HasHalted (reacted g u (waking (w.node u)) w)) e h))))
      (λ ne. inl (halted_there u v (waking (w.node u)) w refl ne h)) (cases_eq v u)
  step_halts _ (Takes_one u j m ms d at q up row) v h =
      ⊎_elim
      (λ (e : v ≡ u).
      subst (λ y. HasHalted w y ⊎ IsCoreNode g (scene w gh) y) (sym e)
      (⊎_elim (λ a. inl a) (λ a. inr (took u j at m ms q a))
      (halting row (halted_here u d (take_first d.fate u j m ms w) (subst (HasHalted (reacted g u d (take_first d.fate u j m ms w))) e h)))))
      (λ ne. inl (halted_there u v d (take_first d.fate u j m ms w) refl ne h)) (cases_eq v u)
