use Rattle.std.proofs.Common.{◌≡◌, ◌∙◌, ap, sym}
use Rattle.own_book.specs.Sends.{SameAtPorts, at_port}
use Rattle.own_book.proofs.Order.{one_order}
use Rattle.own_book.proofs.sends.same_at_ports.Goals as goal

pub returns : goal.returns
returns c =
    let own = c.sort_by_port.new.list.items in
    let other = c.sort_by_port-2.new.list.items in
    let kept_own = c.in_ok-sort_by_port.ensures.same in
    let kept_other = c.in_ok-sort_by_port-2.ensures.same in
    let left : c.deref.result.now ≡ own = c.deref.ensures.value in
    let right : c.deref-2.result.now ≡ other = c.deref-2.ensures.value in (
      λ t. λ p. sym (kept_own p) ∙ (ap (at_port p) (sym left ∙ (c.same_posts.ensures.0 t ∙ right)) ∙ kept_other p),
      λ same.
          let both : SameAtPorts own other = λ p. kept_own p ∙ (same p ∙ sym (kept_other p)) in
          let one : own ≡ other = one_order own other c.in_ok-sort_by_port.ensures.sorted c.in_ok-sort_by_port-2.ensures.sorted both in
          c.same_posts.ensures.1 (left ∙ (one ∙ sym right)),
    )
