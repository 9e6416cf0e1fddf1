-- What ports lead to, and what the links of these ports join.
use Rattle.std.proofs.Common.{◌≡◌, ℕ, ⊎_elim, ◌↔◌, refl, sym, ◌∙◌, ap, subst, subst₂}
use Rattle.ghs_graph.specs.declared.key.Key.{Key}
use Rattle.ghs_graph.specs.Graph.{Shape, IsGraph}
use Rattle.ghs_graph.specs.Links.{Joined, Same, Over as Along, Back}
use Rattle.ghs_node.specs.declared.mark.Mark.TheVariants.{Branch}
use Rattle.ghs_node.specs.NodeState.{mark_at}
use Rattle.peer_network.specs.Network.{Network, network_of, port_at, far, far_port, At}
use Rattle.peer_network.proofs.lemmas.Wired.{IsWired}
use Rattle.ghs_protocol.specs.Net.{Net}
use Rattle.ghs_protocol.specs.Marks.{Leads, Here, Over, IsJoined, IsJoinedLink, InOneFragment}
use Rattle.peer_network.proofs.lemmas.Graphs.{graph_wired, port_ends}

module _ (g : Network) where
  -- ways one after another
  pub leads_on : {S : ℕ → ℕ → Type 0} {a b c : ℕ} → Leads g S a b → Leads g S b c → Leads g S a c
  leads_on Here k = k
  leads_on (Over p at s j) k = Over p at s (leads_on j k)

  module _ (wired : IsWired g) where
    -- over one port, and back again
    pub leads_back : {S : ℕ → ℕ → Type 0} {a b : ℕ} → ((v p : ℕ) → At g v p → S v p → S (far g v p) (far_port g v p)) → Leads g S a b → Leads g S b a
    leads_back f Here = Here
    leads_back {S} {a = a} f (Over p at s j) =
        let one : Leads g S (far g a p) a =
        subst (λ x. Leads g S (far g a p) x) (wired.back a p at) (Over (far_port g a p) (wired.there a p at) (f a p at s) Here) in
        leads_on (leads_back f j) one

    -- a link that is Branch at both ends is so from each of them
    pub joined_back : (w : Net) (v p : ℕ) → At g v p → IsJoined g w v p → IsJoined g w (far g v p) (far_port g v p)
    joined_back w v p at j = (j.1, subst₂ (λ a b. mark_at (w.node a) b ≡ Branch) (sym (wired.back v p at)) (sym (wired.back_port v p at)) j.0)

    pub fragment_back : (w : Net) (v u : ℕ) → InOneFragment g w v u → InOneFragment g w u v
    fragment_back w v u i = leads_back (λ a p at s. joined_back w a p at s) i

module _ (g : Shape) (ok : IsGraph g) (w : Net) where
  -- the ports of a joined link lead from each of its ends to the other
  link_leads : (k : Key) → IsJoinedLink (network_of g) w k → InOneFragment (network_of g) w k.a k.b
  link_leads k l =
      let v = l.0 in
      let p = l.1 in
      let at = l.2 in
      let one : InOneFragment (network_of g) w v (far (network_of g) v p) = Over p at l.4 Here in
      ⊎_elim
      (λ x. subst₂ (InOneFragment (network_of g) w) (x.0 ∙ ap (λ (y : Key). y.a) l.3) (x.1 ∙ ap (λ (y : Key). y.b) l.3) one)
      (λ x.
      subst₂ (InOneFragment (network_of g) w) (x.1 ∙ ap (λ (y : Key). y.a) l.3) (x.0 ∙ ap (λ (y : Key). y.b) l.3)
      (fragment_back (network_of g) (graph_wired g ok) w v _ one))
      (port_ends g ok v p at)

  leads_joins : {v u : ℕ} → InOneFragment (network_of g) w v u → Joined (IsJoinedLink (network_of g) w) v u
  leads_joins Here = Same
  leads_joins {v} {u} (Over p at s j) = onward (leads_joins j)
    where
      k : Key
      k = (port_at (network_of g) v p).key

      link : IsJoinedLink (network_of g) w k
      link = (v, p, at, refl, s)

      onward : Joined (IsJoinedLink (network_of g) w) (far (network_of g) v p) u → Joined (IsJoinedLink (network_of g) w) v u
      onward rest = ⊎_elim
          (λ x.
          subst (λ y. Joined (IsJoinedLink (network_of g) w) y u) (sym x.0)
          (Along k link (subst (λ y. Joined (IsJoinedLink (network_of g) w) y u) x.1 rest)))
          (λ x.
          subst (λ y. Joined (IsJoinedLink (network_of g) w) y u) (sym x.0)
          (Back k link (subst (λ y. Joined (IsJoinedLink (network_of g) w) y u) x.1 rest)))
          (port_ends g ok v p at)

  joins_leads : {v u : ℕ} → Joined (IsJoinedLink (network_of g) w) v u → InOneFragment (network_of g) w v u
  joins_leads Same = Here
  joins_leads (Along k s j) = leads_on (network_of g) (link_leads k s) (joins_leads j)
  joins_leads (Back k s j) = leads_on (network_of g) (fragment_back (network_of g) (graph_wired g ok) w k.a k.b (link_leads k s)) (joins_leads j)

  pub fragments_joined : (v u : ℕ) → (InOneFragment (network_of g) w v u ↔ Joined (IsJoinedLink (network_of g) w) v u)
  fragments_joined v u = (leads_joins, joins_leads)
