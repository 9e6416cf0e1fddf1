use Rattle.std.proofs.Common.{◌≡◌, ◌∙◌, ◌++◌, ◌∷◌, [], codes, decimal}
use Rattle.own_book.proofs.Queries.{behind}
use Rattle.own_book.proofs.asking.put_take.Goals as goal

pub returns : goal.returns
returns c =
    let text = c.args.text.now.items in
    let all : c.extend_from_slice-6.new.self.items ≡
    (((((((text ++ codes "take ") ++ decimal c.args.node) ++ 32 ∷ []) ++ decimal c.args.port) ++ 32 ∷ []) ++ c.args.message.now) ++ 32 ∷ [])
    ++ c.args.state.now =
    cc (
      c.in_ok-extend_from_slice.ensures.items,
      c.in_ok-put_number.ensures,
      c.in_ok-extend_from_slice-2.ensures.items,
      c.in_ok-put_number-2.ensures,
      c.in_ok-extend_from_slice-3.ensures.items,
      c.in_ok-extend_from_slice-4.ensures.items,
      c.in_ok-extend_from_slice-5.ensures.items,
      c.in_ok-extend_from_slice-6.ensures.items,
    ) in
    all ∙ behind text (decimal c.args.node) (decimal c.args.port) c.args.message.now c.args.state.now
