use Rattle.std.proofs.Common.{◌∙◌, ap, sym}
use Rattle.std.proofs.lemmas.Result.{IfOk-weaker}
use Rattle.ghs_cli.specs.Swept.{about_of, layout_by}
use Rattle.peer_sweep.specs.Columns.{layout_of}
use Rattle.peer_trace.specs.declared.protocol.Protocol.TheVariants as protocol
use Rattle.ghs_cli.proofs.swept.table_by.Goals as goal

pub returns-in-Ghs : goal.returns-in-Ghs
returns-in-Ghs c =
    IfOk-weaker c.of.result _ _
    (λ t told. told ∙ ap (layout_of (about_of protocol.Ghs)) c.kind_columns-kinds.ensures ∙ ap layout_by (sym c.in-Ghs.is))
    c.of.ensures

pub returns-in-Boruvka : goal.returns-in-Boruvka
returns-in-Boruvka c =
    IfOk-weaker c.of-in-Boruvka.result _ _
    (λ t told. told ∙ ap (layout_of (about_of protocol.Boruvka)) c.kind_columns-kinds.ensures ∙ ap layout_by (sym c.in-Boruvka.is))
    c.of-in-Boruvka.ensures

pub returns-in-Echo : goal.returns-in-Echo
returns-in-Echo c =
    IfOk-weaker c.of-in-Echo.result _ _
    (λ t told. told ∙ ap (layout_of (about_of protocol.Echo)) c.kind_columns-kinds.ensures ∙ ap layout_by (sym c.in-Echo.is))
    c.of-in-Echo.ensures

pub returns-in-Gather : goal.returns-in-Gather
returns-in-Gather c =
    IfOk-weaker c.of-in-Gather.result _ _
    (λ t told. told ∙ ap (layout_of (about_of protocol.Gather)) c.kind_columns-kinds.ensures ∙ ap layout_by (sym c.in-Gather.is))
    c.of-in-Gather.ensures
