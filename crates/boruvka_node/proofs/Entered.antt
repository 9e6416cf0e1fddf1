-- Lists of ports: one changed, all entered.
use Rattle.std.proofs.Common.{◌≡◌, ℕ, suc, ◌+◌, ◌<◌, List, [], ◌∷◌, ◌++◌, length, get_or, drop, refl, sym, ◌∙◌, ap, arith, drop-cons, add-one, append_assoc}
use Rattle.peer_machine.specs.Rules.{Outgoing}
use Rattle.boruvka_node.specs.declared.change.Entry.{Entry}
use Rattle.boruvka_node.specs.declared.message.Message.{Message}
use Rattle.boruvka_node.specs.declared.port_state.PortState.{PortState}
use Rattle.boruvka_node.specs.State.{no_port}
use Rattle.boruvka_node.specs.Entering.{entered_from, entered_port, told_from, told_as, joined_mark}
use Rattle.boruvka_node.proofs.lemmas.Entered.{length_entered, get_entered}

pub same_ports : (xs ys : List PortState) → length xs ≡ length ys → ((k : ℕ) → k < length xs → get_or xs k no_port ≡ get_or ys k no_port) → xs ≡ ys
same_ports [] [] e h = refl
same_ports [] (y ∷ ys) e h = absurd (omega (arith, e))
same_ports (x ∷ xs) [] e h = absurd (omega (arith, e))
same_ports (x ∷ xs) (y ∷ ys) e h =
    let here : x ≡ y = h 0 (omega arith) in
    rw (here, same_ports xs ys (omega (arith, e)) (λ k lt. h (suc k) (omega (arith, lt)))) refl

-- the ports up to the end are entered, one by one
pub all_entered : (e : Entry) (old new : List PortState) → length new ≡ length old
    → ((k : ℕ) → k < length old → get_or new k no_port ≡ entered_port e k (get_or old k no_port)) → new ≡ entered_from e 0 old
all_entered e old new len each =
    let l = length_entered e 0 old in
    same_ports new (entered_from e 0 old) (len ∙ sym l)
    (λ k lt. let within : k < length old = omega (arith, lt, len) in each k within ∙ sym (get_entered e old k within))

-- what is told from place i on, with what is told at i
pub told_here : (e : Entry) (ps : List PortState) (i : ℕ) → i < length ps
    → told_from e i (drop i ps) ≡ told_as e i (joined_mark e i (get_or ps i no_port).mark) ++ told_from e (i + 1) (drop (i + 1) ps)
told_here e ps i lt = rw (drop-cons ps i no_port lt, add-one) refl

-- and it is told then
pub told_next : (e : Entry) (ps : List PortState) (i : ℕ) (ss ts all : Outgoing Message) → i < length ps
    → ts ≡ ss ++ told_as e i (joined_mark e i (get_or ps i no_port).mark) → ss ++ told_from e i (drop i ps) ≡ all
    → ts ++ told_from e (i + 1) (drop (i + 1) ps) ≡ all
told_next e ps i ss ts all lt told before =
    let here = told_as e i (joined_mark e i (get_or ps i no_port).mark) in
    let rest = told_from e (i + 1) (drop (i + 1) ps) in
    ap (λ (us : Outgoing Message). us ++ rest) told ∙ append_assoc ss here rest
    ∙ ap (λ (us : Outgoing Message). ss ++ us) (sym (told_here e ps i lt)) ∙ before
