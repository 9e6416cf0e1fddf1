-- Of the Connects of a link none waits, or one, as its two marks ask: read off what the invariant says of tree messages.
use Rattle.std.proofs.Common.{◌≡◌, ◌≢◌, ℕ, ◌≤◌, Option, List, [], ◌∷◌, ◌++◌, refl, ◌∙◌, ap, arith, ⊎_elim, ◌⊎◌}
use Rattle.ghs_graph.specs.declared.key.Key.{Key}
use Rattle.ghs_node.specs.declared.mark.Mark.{Mark}
use Rattle.ghs_node.specs.declared.mark.Mark.TheVariants.{Basic, Branch}
use Rattle.ghs_node.specs.declared.message.Message.{Message}
use Rattle.ghs_node.specs.declared.message.Message.TheVariants.{Connect, Initiate, Test, Accept, Reject, Report, ChangeRoot}
use Rattle.peer_network.specs.Network.{Network, network_of, At, far, far_port}
use Rattle.peer_network.proofs.lemmas.Wired.{IsWired}
use Rattle.ghs_protocol.specs.Net.{Net}
use Rattle.ghs_protocol.specs.Ledger.{of_kind}
use Rattle.ghs_protocol.specs.Connects.{ConnectsFit}
use Rattle.ghs_protocol.specs.Laws.{ConnectsAreOne}
use Rattle.ghs_protocol.proofs.clauses.Scene.{Ghost, TreeEnd, end, tree_end, scene, far_end}
use Rattle.ghs_protocol.proofs.clauses.Links.{Joins, Ups}
use Rattle.ghs_protocol.proofs.clauses.TreeMessages.{TreeFits, Upward, Nothing_up, Report_up, Chain, Downward, Initiates, Old_report, Stage, Asking, Called, Begun, asked, called, CoreQueue, Plain, With_report, CoreFits, MovedFits, To_here, To_there}
use Rattle.ghs_protocol.proofs.clauses.Whole.{Invariant, NamesOf}
use Rattle.peer_network.proofs.lemmas.Graphs.{graph_wired}
use Rattle.ghs_protocol.proofs.every_run.Interleavings.{holds}
use Rattle.ghs_protocol.proofs.charges.Waiting.{kinds_seen}
use Rattle.ghs_protocol.proofs.search.FirstReport.{Joint, joint, Down_here, Down_there, On_core, On_moved, mark_is}
use Rattle.ghs_protocol.proofs.rows.Link.{link_fits, link_fits', link_leads}

-- how many Connects wait at an end
abbrev connects_at : TreeEnd → ℕ
connects_at e = of_kind 0 e.tree

no_connect : (e : TreeEnd) (ms : List Message) → e.tree ≡ ms → of_kind 0 ms ≡ 0 → connects_at e ≡ 0
no_connect e ms q z = ap (of_kind 0) q ∙ z

chain_free : (N : Key → Type 0) (top : ℕ) (name : Option Key) (t l : ℕ) (ms : List Message) → Chain N top name t l ms → of_kind 0 ms ≡ 0
chain_free N top name t l [] c = omega arith
chain_free N top name t l (Initiate k f s ∷ ms) c = let z = chain_free N top name t k ms c.5 in omega (arith, z)
chain_free N top name t l (Connect k ∷ ms) c = absurd c
chain_free N top name t l (Test k f ∷ ms) c = absurd c
chain_free N top name t l (Accept ∷ ms) c = absurd c
chain_free N top name t l (Reject ∷ ms) c = absurd c
chain_free N top name t l (Report k ∷ ms) c = absurd c
chain_free N top name t l (ChangeRoot ∷ ms) c = absurd c

-- at an end of the core one waits at most
core_one : (l n : ℕ) (k : Key) (a b : Stage) → of_kind 0 (asked l b ++ called n k a) ≤ 1
core_one l n k Asking Asking = omega arith
core_one l n k Asking Called = omega arith
core_one l n k Asking Begun = omega arith
core_one l n k Called Asking = omega arith
core_one l n k Called Called = omega arith
core_one l n k Called Begun = omega arith
core_one l n k Begun Asking = omega arith
core_one l n k Begun Called = omega arith
core_one l n k Begun Begun = omega arith

half_free : (n : ℕ) (k : Key) (r : Option Key) (a : Stage) → of_kind 0 (called n k a ++ Report r ∷ []) ≡ 0
half_free n k r Asking = omega arith
half_free n k r Called = omega arith
half_free n k r Begun = omega arith

module _ {N : ℕ → Key → Type 0} (e f : TreeEnd) (he : TreeFits N e f) (hf : TreeFits N f e) (ups : Joins e f → Ups e ⊎ Ups f) where
  most_joined : Joins e f → connects_at f ≤ 1
  most_joined j = go (joint e f j (ups j))
    where
      few : connects_at f ≡ 0 → connects_at f ≤ 1
      few z = omega (arith, z)

      up : Upward e f → connects_at f ≤ 1
      up (Nothing_up q) = few (no_connect f [] q (omega arith))
      up (Report_up r q h) = few (no_connect f (Report r ∷ []) q (omega arith))

      down : Downward (N f.fragment) f e → connects_at f ≤ 1
      down (Initiates c) = few (chain_free _ _ _ _ _ f.tree c)
      down (Old_report r ms q h c) = let z = chain_free _ _ _ _ _ ms c in few (no_connect f (Report r ∷ ms) q (omega (arith, z)))

      core : (z : CoreFits e f) → CoreQueue f e z.there z.here → connects_at f ≤ 1
      core z (Plain q) = let a = core_one e.level f.coming f.key z.there z.here in let b = ap (of_kind 0) q in omega (arith, a, b)
      core z (With_report r q b s k) = few (no_connect f _ q (half_free f.coming f.key r z.there))

      moved : MovedFits e f → connects_at f ≤ 1
      moved (To_here m) = few (no_connect f [] m.queue_beyond (omega arith))
      moved (To_there m) = few (no_connect f (ChangeRoot ∷ []) m.queue (omega arith))

      go : Joint e f → connects_at f ≤ 1
      go (Down_here c) = up (he.upward c)
      go (Down_there c) = down (hf.downward c)
      go (On_core c) = let z = he.core_queues c in core z z.queue_beyond
      go (On_moved c) = moved (he.moved_root c)

  none_sent : e.mark ≢ Branch → connects_at f ≡ 0
  none_sent a =
      ⊎_elim
      (λ b. no_connect f [] (hf.out_connect (record { here = b; there = a })).none (omega arith))
      (λ b. no_connect f [] (hf.silent b a) (omega arith))
      (mark_is f.mark)

  one_sent : e.mark ≡ Branch → f.mark ≢ Branch → connects_at f ≡ 1
  one_sent a b = ap (of_kind 0) (he.out_connect (record { here = a; there = b })).one ∙ omega arith

  most_sent : connects_at f ≤ 1
  most_sent = ⊎_elim
      (λ a. ⊎_elim (λ b. most_joined (record { here = a; there = b })) (λ b. let z = one_sent a b in omega (arith, z)) (mark_is f.mark))
      (λ a. let z = none_sent a in omega (arith, z))
      (mark_is e.mark)

basic_not : (m : Mark) → m ≡ Basic → m ≢ Branch
basic_not m b e = cc (b, e)

module _ (g : Network) (wired : IsWired g) (w : Net) (gh : Ghost) (fits : Invariant g (scene w gh)) where
  -- of the Connects that port p of v has sent
  sent_from : (v p : ℕ) → At g v p → ConnectsFit g w v p
  sent_from v p at = record {
    none = λ ne. let z = none_sent here there he hf ups ne in omega (arith, z, seen);
    one = λ a b. let z = one_sent here there he hf ups a (basic_not there.mark b) in omega (arith, z, seen);
    most = let z = most_sent here there he hf ups in omega (arith, z, seen);
  }
    where
      here : TreeEnd
      here = tree_end (end g (scene w gh) v p)

      there : TreeEnd
      there = tree_end (far_end g (scene w gh) v p)

      he : TreeFits (NamesOf g (scene w gh)) here there
      he = (link_fits g wired (scene w gh) fits v p at).tree

      hf : TreeFits (NamesOf g (scene w gh)) there here
      hf = (link_fits' g wired (scene w gh) fits v p at).tree

      ups : Joins here there → Ups here ⊎ Ups there
      ups = link_leads g wired (scene w gh) fits v p at

      seen : of_kind 0 there.tree ≡ of_kind 0 (w.queue (far g v p) (far_port g v p))
      seen = kinds_seen 0 refl refl refl (w.queue (far g v p) (far_port g v p))

pub connects_are_one : ConnectsAreOne
connects_are_one g w n v p at = let h = holds g w n in sent_from (network_of g) (graph_wired g n.graph) w h.sound.ghost h.sound.holds.first v p at
