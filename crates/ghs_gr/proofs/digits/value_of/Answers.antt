use Rattle.std.proofs.Common.{◌≡◌, length, rules, arith}
use Rattle.ghs_gr.proofs.Eight.{are_digits}
use Rattle.ghs_gr.proofs.digits.value_of.Goals as goal

pub overflow_sub-digits : goal.overflow_sub-digits
overflow_sub-digits c =
    let long : length c.args.bytes ≡ 8 = search rules in
    (are_digits c.args.bytes c.from_le_bytes.result c.args.count c.from_le_bytes.ensures long c.requires.few c.requires.digits).above

pub overflow_mul-pairs : goal.overflow_mul-pairs
overflow_mul-pairs c =
    let long : length c.args.bytes ≡ 8 = search rules in
    let are = are_digits c.args.bytes c.from_le_bytes.result c.args.count c.from_le_bytes.ensures long c.requires.few c.requires.digits in
    record { fits = omega (arith, are.gives.0) }

pub overflow_add-pairs : goal.overflow_add-pairs
overflow_add-pairs c =
    let long : length c.args.bytes ≡ 8 = search rules in
    let are = are_digits c.args.bytes c.from_le_bytes.result c.args.count c.from_le_bytes.ensures long c.requires.few c.requires.digits in
    record { fits = are.gives.0 }

pub returns-clause-value : goal.returns-clause-value
returns-clause-value c =
    let long : length c.args.bytes ≡ 8 = search rules in
    (are_digits c.args.bytes c.from_le_bytes.result c.args.count c.from_le_bytes.ensures long c.requires.few c.requires.digits).gives.1

pub returns-clause-below : goal.returns-clause-below
returns-clause-below c =
    let long : length c.args.bytes ≡ 8 = search rules in
    let are = are_digits c.args.bytes c.from_le_bytes.result c.args.count c.from_le_bytes.ensures long c.requires.few c.requires.digits in
    omega (arith, are.gives.1, are.gives.2)
