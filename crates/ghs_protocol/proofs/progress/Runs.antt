-- No run is ever stuck.
use Rattle.std.proofs.Common.{◌≡◌, ◌≢◌, ℕ, true, false, Some, length, sym, ◌∙◌, ap, subst, subst₂, ⊎_elim, arith, List, [], ◌∷◌, ◌++◌}
use Rattle.ghs_graph.specs.Key.{key_lt}
use Rattle.ghs_node.specs.declared.mark.Mark.TheVariants.{Branch}
use Rattle.ghs_node.specs.declared.message.Message.{Message}
use Rattle.ghs_node.specs.declared.message.Phase.TheVariants.{Sleeping}
use Rattle.ghs_node.specs.Words.{is_branch}
use Rattle.peer_network.specs.Network.{Network, network_of, port_at, At, far, far_port, InNetwork}
use Rattle.peer_network.proofs.lemmas.Wired.{IsWired}
use Rattle.ghs_protocol.specs.Living.{SilenceIsEnd, NoRunIsStuck, OneWaits}
use Rattle.ghs_protocol.proofs.clauses.Scene.{Scene, scene, forest}
use Rattle.ghs_protocol.proofs.clauses.Nodes.{IsUp}
use Rattle.ghs_protocol.proofs.clauses.Fragments.{Root, Goes_out, Both_ways, Reach, At_root, By_step}
use Rattle.ghs_protocol.proofs.clauses.Whole.{Invariant}
use Rattle.ghs_protocol.proofs.clauses.Floors.{Floor, lower, Floors}
use Rattle.ghs_protocol.proofs.progress.Awaits.{net_lives}
use Rattle.peer_network.proofs.lemmas.Graphs.{graph_wired}
use Rattle.ghs_protocol.proofs.acts.SameForest.{mark_branch}
use Rattle.ghs_protocol.proofs.tests.Links.{probe_is}
use Rattle.ghs_protocol.proofs.acts.Floors.{near_fits, lower_on, lower_self, not_above}
use Rattle.ghs_protocol.proofs.every_run.Sound.{sound}
use Rattle.ghs_protocol.proofs.progress.Nets.{back, progress}
use Rattle.ghs_protocol.proofs.progress.OneWaits.{two_wait}
use Rattle.ghs_protocol.proofs.acts.Grounds.{graph_ground}
use Rattle.ghs_node.proofs.lemmas.{branch_mark}

-- A Connect under way goes over the least link that leaves its fragment: its sender's floor is that link's key, and no floor of the
-- fragment is below it.
module _ (g : Network) (wired : IsWired g) (w : Scene) (holds : Invariant g w) (floor : ℕ → Floor) (floors : Floors g w floor) (a j : ℕ)
    (at : At g a j) (mark : (w.at a).mark j ≡ Branch) (free : is_branch ((w.at (far g a j)).mark (far_port g a j)) ≡ false) where
  is_floor : floor a ≡ Some (Some (port_at g a j).key)
  is_floor = (near_fits g wired w holds floor floors a j at).out (record { here = mark; there = mark_branch _ free })

  is : InNetwork g a
  is = record { some = at.some; node = at.node }

  awake : (w.at a).head.phase ≢ Sleeping
  awake e = ((holds.nodes a is).untouched e).marks j mark

  at_root : (v p : ℕ) → At g v p → Root g (forest w) v p → (w.at v).fragment ≡ (w.at a).fragment → lower (floor a) (floor v) ≡ true
  at_root v p at' root same =
      ⊎_elim
      (λ h. subst (λ y. lower (floor a) (floor y) ≡ true) (sym h.0) (lower_self (floor a)))
      (λ h. absurd (other h.0 h.1 root))
      (holds.trees.one_root v p a j at' at root (Goes_out (ap is_branch mark) free) same)
    where
      -- the other end of the link has no mark
      other : far g v p ≡ a → far_port g v p ≡ j → Root g (forest w) v p → ⊥
      other e e' (Goes_out x y) =
          let z : is_branch ((w.at a).mark j) ≡ true = ap is_branch mark in
          let t : is_branch ((w.at a).mark j) ≡ false = subst₂ (λ c d. is_branch ((w.at c).mark d) ≡ false) e e' y in cc (z, t)
      other e e' (Both_ways x y z) =
          let s : is_branch ((w.at v).mark p) ≡ false =
          subst₂ (λ c d. is_branch ((w.at c).mark d) ≡ false) (subst₂ (λ c d. far g c d ≡ v) e e' (wired.back v p at'))
          (subst₂ (λ c d. far_port g c d ≡ p) e e' (wired.back_port v p at')) free in
          let t = x.here in cc (s, t)

  above : {v : ℕ} → Reach g (forest w) v → (w.at v).fragment ≡ (w.at a).fragment → lower (floor a) (floor v) ≡ true
  above {v} (At_root p at' way root) same = at_root v p at' root same
  above {v} (By_step p at' way link r) same =
      ⊎_elim (λ h. at_root v p at' (Both_ways link way h) same)
      (λ ne.
      lower_on (floor a) (floor (far g v p)) (floor v) (above r (sym (holds.trees.joined_within v p at' link) ∙ same))
      ((near_fits g wired w holds floor floors v p at').falls
      (record { joins = record { here = branch_mark _ link.here; there = branch_mark _ link.there }; up = way; down = ne })))
      (probe_is (w.at (far g v p)).up (far_port g v p))

  pub over_least : (u q : ℕ) →
      At g u q →
      (w.at u).fragment ≡ (w.at a).fragment →
      (w.at (far g u q)).fragment ≢ (w.at a).fragment →
      key_lt (port_at g u q).key (port_at g a j).key ≡ false
  over_least u q at' same out =
      not_above (port_at g a j).key (port_at g u q).key
      (subst (λ f. lower f (Some (Some (port_at g u q).key)) ≡ true) is_floor
      (lower_on (floor a) (floor u) _ (above (holds.trees.reached u z.port its z.up) same)
      ((near_fits g wired w holds floor floors u q at').none_below (λ e. out (e ∙ same)))))
    where
      its : InNetwork g u
      its = record { some = at'.some; node = at'.node }

      z : IsUp (length (g.ports u)) (w.at u)
      z =
          (holds.nodes u its).points
          (λ e. awake (subst (λ y. (w.at y).head.phase ≡ Sleeping) (sym (holds.alone u a its is e (sym same))) e))
          (omega (arith, at'.port))

-- a Connect under way goes over the least link that leaves its fragment
abbrev pub GoesOverLeast : Network → Scene → Type 0
GoesOverLeast g w =
    (a j : ℕ) → At g a j → (w.at a).mark j ≡ Branch → is_branch ((w.at (far g a j)).mark (far_port g a j)) ≡ false →
    (u q : ℕ) → At g u q →
    (w.at u).fragment ≡ (w.at a).fragment →
    (w.at (far g u q)).fragment ≢ (w.at a).fragment →
    key_lt (port_at g u q).key (port_at g a j).key ≡ false

pub goes_over_least : (g : Network) → IsWired g → (w : Scene) → Invariant g w → (floor : ℕ → Floor) → Floors g w floor → GoesOverLeast g w
goes_over_least g wired w holds floor floors a j at mark free u q at' same out =
    over_least g wired w holds floor floors a j at mark free u q at' same out

pub no_run_is_stuck : NoRunIsStuck
no_run_is_stuck g w n S u =
    let s = sound g w n in
    progress (network_of g) (graph_ground g n.graph) w s.ghost s.holds.first (net_lives g w n s.ghost s.holds.lives) S u
    (goes_over_least (network_of g) (graph_wired g n.graph) (scene w s.ghost) s.holds.first s.holds.floor s.holds.floors)

-- a queue with such a message isn't empty
pub silence_is_end : SilenceIsEnd
silence_is_end g w n S u =
    let z = no_run_is_stuck g w n S u in (z.node, z.port, z.at, z.member, (λ e. some z.before z.message z.behind (sym z.queue ∙ e)))
  where
    some : (bs : List Message) (m : Message) (cs : List Message) → bs ++ m ∷ cs ≡ [] → ⊥
    some [] m cs e = cc
    some (b ∷ bs) m cs e = cc

pub one_waits : OneWaits
one_waits g w n v p at m k ms q a b =
    let s = sound g w n in
    two_wait (network_of g) (graph_wired g n.graph) v p at w s.ghost s.holds.first m k ms q (back (w.node v) p m a) (back (w.node v) p k b)
