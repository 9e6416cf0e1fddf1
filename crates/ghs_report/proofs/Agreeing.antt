-- A component ends with the core to which merging the graph leads.
use Rattle.std.proofs.Common.{◌≡◌, ◌∙◌, ap, sym, subst}
use Rattle.ghs_graph.specs.Links.{Joined, links}
use Rattle.ghs_graph.proofs.lemmas.Joining.{joined_back}
use Rattle.ghs_protocol.specs.Cores.{MergesTo}
use Rattle.ghs_protocol.proofs.lemmas.Merging.{core_is_of_graph, merges_there}
use Rattle.ghs_report.specs.declared.component.Component.{Component}
use Rattle.ghs_report.specs.CoreLaws.{CoresAgree}

same : (c d : Component) → c.root ≡ d.root → c.level ≡ d.level → c.link ≡ d.link → c ≡ d
same c d r l k =
    ap (λ x. record { root = x; level = c.level; link = c.link }) r
    ∙ (ap (λ x. record { root = d.root; level = x; link = c.link }) l
    ∙ ap (λ x. record { root = d.root; level = d.level; link = x }) k)

pub cores_agree : CoresAgree
cores_agree g w c d net of ended e =
    let way : Joined (links g.keys) c.root ended.node =
    joined_back (subst (λ r. Joined (links g.keys) ended.node r) (sym e) ended.root.joined) in
    let here : MergesTo g ended.node c.level c.link = merges_there g c.root ended.node c.level c.link way of in
    let z = (core_is_of_graph g w net ended.node ended.some ended.within ended.halted).1 c.level c.link here in
    same c d e (z.0 ∙ ended.level) (z.1 ∙ ended.name)
