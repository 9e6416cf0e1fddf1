-- No reaction makes a Rejected port Branch.
use Rattle.std.proofs.Common.{◌≡◌, ◌≢◌, ℕ, Option, Some, None, List, ◌∷◌, refl, sym, ◌∙◌, ap, subst}
use Rattle.std.proofs.lemmas.Option.{same_Some}
use Rattle.ghs_graph.specs.declared.key.Key.{Key}
use Rattle.ghs_node.specs.declared.mark.Mark.{Mark}
use Rattle.ghs_node.specs.declared.mark.Mark.TheVariants.{Basic, Branch, Rejected}
use Rattle.ghs_node.specs.declared.message.Message.{Message}
use Rattle.ghs_node.specs.declared.message.Message.TheVariants.{Connect, Report, ChangeRoot}
use Rattle.ghs_node.specs.declared.delta.Delta.{Delta}
use Rattle.ghs_node.specs.Words.{below, best_key}
use Rattle.ghs_node.specs.NodeState.{NodeState, mark_at}
use Rattle.ghs_node.specs.Reaction.{root_mark, reject_at}
use Rattle.ghs_node.specs.Rows.{AwakeRow, Connect_absorbed, Test_rejected, Tests_cross, Reject_heard, Report_moves_root, Root_moves}
use Rattle.peer_network.specs.Network.{Network, At}
use Rattle.peer_network.proofs.lemmas.Wired.{IsWired}
use Rattle.ghs_protocol.specs.Net.{Net}
use Rattle.ghs_protocol.proofs.clauses.Scene.{end, tree_end, see, scene, Ghost, far_end}
use Rattle.ghs_protocol.proofs.clauses.Changes.{rejected}
use Rattle.ghs_protocol.proofs.clauses.Uniting.{SendsRoot, By_report, By_root}
use Rattle.ghs_protocol.proofs.clauses.Whole.{Invariant, HasInvariant}
use Rattle.ghs_protocol.proofs.every_run.RejectedStays.{SparesRejected}
use Rattle.ghs_protocol.proofs.rows.Link.{node_fits, link_fits, link_fits', link_leads}
use Rattle.ghs_protocol.proofs.union.CoreAnswered.{Asked, asked_on}
use Rattle.ghs_protocol.proofs.root.AtRoot.{at_root}
use Rattle.ghs_protocol.proofs.rows.Read.{tree_first}
use Rattle.peer_network.proofs.lemmas.Wires.{at_in}

-- a port that turns Rejected doesn't turn Branch
reject_no_branch : (n : NodeState) (j q : ℕ) → reject_at n j ≡ Some (q, Branch) → ⊥
reject_no_branch n j q e = go (mark_at n j) refl
  where
    go : (m : Mark) → mark_at n j ≡ m → ⊥
    go Basic h =
        let z : ◌≡◌ {A = Option (ℕ × Mark)} (Some (j, Rejected)) (Some (q, Branch)) = sym (rw h refl) ∙ e in
        let y : Rejected ≡ Branch = ap (λ (o : ℕ × Mark). o.1) (same_Some _ _ z) in
        cc
    go Branch h = let z : ◌≡◌ {A = Option (ℕ × Mark)} None (Some (q, Branch)) = sym (rw h refl) ∙ e in cc
    go Rejected h = let z : ◌≡◌ {A = Option (ℕ × Mark)} None (Some (q, Branch)) = sym (rw h refl) ∙ e in cc

-- the port that the root moves over
root_port : (m : Mark) (b q : ℕ) → root_mark m b ≡ Some (q, Branch) → b ≡ q
root_port Basic b q e = ap (λ (o : ℕ × Mark). o.0) (same_Some _ _ e)
root_port Rejected b q e = ap (λ (o : ℕ × Mark). o.0) (same_Some _ _ e)
root_port Branch b q e = absurd (let z : ◌≡◌ {A = Option (ℕ × Mark)} None (Some (q, Branch)) = e in cc)

module _ (g : Network) (wired : IsWired g) (w : Net) (gh : Ghost) (holds : Invariant g (scene w gh)) (v p : ℕ) (at : At g v p) where
  -- a Connect of a lower level never comes over a Rejected link
  absorbs_spare : (l : ℕ) (ms : List Message) → w.queue v p ≡ Connect l ∷ ms → mark_at (w.node v) p ≢ Rejected
  absorbs_spare l ms q rejected = let z = come.core.both.joins.here in cc (z, rejected)
    where
      come : Asked (tree_end (end g (scene w gh) v p)) (tree_end (far_end g (scene w gh) v p)) l (see ms).tree
      come =
          asked_on (tree_end (end g (scene w gh) v p)) (tree_end (far_end g (scene w gh) v p)) (link_fits g wired (scene w gh) holds v p at).tree
          (link_fits' g wired (scene w gh) holds v p at).tree (link_leads g wired (scene w gh) holds v p at) l (see ms).tree
          (tree_first (w.queue v p) ms (Connect l) refl q) (λ z. cc (z, rejected))

  -- nor is a best link Rejected when the root moves
  root_spares : (ms : List Message) (b : ℕ) (k : Key) →
      SendsRoot (scene w gh) v p ms →
      (w.node v).head.best ≡ Some (b, k) →
      mark_at (w.node v) b ≢ Rejected
  root_spares ms b k calls best rejected =
      let n = node_fits g wired (scene w gh) holds v p at in
      let at' : At g v b = record { some = at.some; node = at.node; port = (n.best_port b k best).0 } in
      let s = (link_fits g wired (scene w gh) holds v b at').search in
      let out = s.find_leads k best (at_root g wired v (at_in at) p at (scene w gh) holds ms calls).top (λ z. cc (z, rejected)) in
      out.apart (sym (s.rejected_inside rejected))

  row_spares : (q : ℕ) (m : Message) (ms : List Message) (d : Delta) →
      w.queue v p ≡ m ∷ ms →
      AwakeRow (w.node v) p m d →
      d.mark ≡ Some (q, Branch) →
      mark_at (w.node v) q ≢ Rejected
  row_spares q m ms d waits (Connect_absorbed {l = l} lt few) e =
      let z : p ≡ q = ap (λ (o : ℕ × Mark). o.0) (same_Some _ _ e) in subst (λ y. mark_at (w.node v) y ≢ Rejected) z (absorbs_spare l ms waits)
  row_spares q m ms d waits (Test_rejected le same free) e = absurd (reject_no_branch (w.node v) p q e)
  row_spares q m ms d waits (Tests_cross le same own s) e = absurd (reject_no_branch (w.node v) p q e)
  row_spares q m ms d waits (Reject_heard own s) e = absurd (reject_no_branch (w.node v) p q e)
  row_spares q m ms d waits (Report_moves_root {w = r} b k way found best less) e =
      subst (λ y. mark_at (w.node v) y ≢ Rejected) (root_port _ b q e)
      (root_spares (see ms).tree b k
      (By_report r (tree_first (w.queue v p) ms (Report r) refl waits) way found (ap (λ o. below (best_key o) r) best ∙ less)) best)
  row_spares q m ms d waits (Root_moves b k best) e =
      subst (λ y. mark_at (w.node v) y ≢ Rejected) (root_port _ b q e)
      (root_spares (see ms).tree b k (By_root (tree_first (w.queue v p) ms ChangeRoot refl waits)) best)
  row_spares q m ms d waits _ e = absurd (let z : ◌≡◌ {A = Option (ℕ × Mark)} None (Some (q, Branch)) = e in cc)

pub spares : (g : Network) → IsWired g → (w : Net) → HasInvariant g w → SparesRejected g w
spares g wired w h v p q m ms d at waits row e = row_spares g wired w h.ghost h.holds v p at q m ms d waits row e
