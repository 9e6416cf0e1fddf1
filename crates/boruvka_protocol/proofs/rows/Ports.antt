-- What each change of a node makes of each of its ports, and what it sends there.
use Rattle.std.proofs.Common.{◌≡◌, ◌≢◌, ℕ, zero, suc, ◌+◌, ◌<◌, Bool, true, false, List, [], ◌∷◌, ◌++◌, length, refl, ◌∙◌, ap, subst, cond, get_or-set_same, get_or-set_other, append-nil, arith}
use Rattle.std.specs.Prelude.{slice_index_or}
use Rattle.ghs_node.specs.Words.{is_at}
use Rattle.boruvka_node.specs.declared.change.Entry.{Entry}
use Rattle.boruvka_node.specs.declared.mark.Mark.{Mark}
use Rattle.boruvka_node.specs.declared.mark.Mark.TheVariants.{Basic, Asked, Branch, Inside}
use Rattle.boruvka_node.specs.declared.message.Message.{Message}
use Rattle.boruvka_node.specs.declared.message.Message.TheVariants.{Initiate, Name}
use Rattle.boruvka_node.specs.declared.port_state.PortState.{PortState}
use Rattle.boruvka_node.specs.State.{State, no_port, port_at, mark_at, degree, set_port}
use Rattle.boruvka_node.specs.Entering.{joined_mark, entered, entered_port, told_as, told_from}
use Rattle.boruvka_node.proofs.lemmas.Entered.{get_entered}
use Rattle.boruvka_protocol.proofs.rows.Sends.{sent_on, sent_here, sent_elsewhere, sent_append}

-- one port changes, and no other
pub port_set : (n : State) (j : ℕ) (x : PortState) → j < degree n → port_at (set_port n j x) j ≡ x
port_set n j x lt = get_or-set_same n.ports j x no_port lt

pub port_kept : (n : State) (j i : ℕ) (x : PortState) → i ≢ j → port_at (set_port n j x) i ≡ port_at n i
port_kept n j i x ne = get_or-set_other n.ports j i x no_port ne

pub mark_set : (n : State) (j : ℕ) (x : PortState) → j < degree n → mark_at (set_port n j x) j ≡ x.mark
mark_set n j x lt = ap (λ (y : PortState). y.mark) (port_set n j x lt)

pub mark_kept : (n : State) (j i : ℕ) (x : PortState) → i ≢ j → mark_at (set_port n j x) i ≡ mark_at n i
mark_kept n j i x ne = ap (λ (y : PortState). y.mark) (port_kept n j i x ne)

-- a node that enters: each port by itself
pub port_entered : (n : State) (e : Entry) (i : ℕ) → i < degree n → port_at (entered n e) i ≡ entered_port e i (port_at n i)
port_entered n e i lt = get_entered e n.ports i lt

-- what a node that enters tells at a port of this mark: its name where it is Basic, and a call where it is Branch and no parent
abbrev pub told_by : Entry → Mark → Bool → List Message
told_by e Basic up = Name e.level e.name ∷ []
told_by e Asked up = Name e.level e.name ∷ []
told_by e Branch up = cond up [] (Initiate e.level e.name ∷ [])
told_by e Inside up = []

one_here : (p : ℕ) (m : Message) → sent_on ((p, m) ∷ []) p ≡ m ∷ []
one_here p m = sent_here (p, m) [] p refl

told_here : (e : Entry) (p : ℕ) (m : Mark) → sent_on (told_as e p m) p ≡ told_by e m (is_at e.parent p)
told_here e p Basic = one_here p _
told_here e p Asked = one_here p _
told_here e p Branch = go (is_at e.parent p)
  where
    go : (up : Bool) → sent_on (cond up [] ((p, Initiate e.level e.name) ∷ [])) p ≡ cond up [] (Initiate e.level e.name ∷ [])
    go true = refl
    go false = one_here p _
told_here e p Inside = refl

told_elsewhere : (e : Entry) (p i : ℕ) (m : Mark) → p ≢ i → sent_on (told_as e p m) i ≡ []
told_elsewhere e p i Basic ne = sent_elsewhere _ [] i ne
told_elsewhere e p i Asked ne = sent_elsewhere _ [] i ne
told_elsewhere e p i Branch ne = go (is_at e.parent p)
  where
    go : (up : Bool) → sent_on (cond up [] ((p, Initiate e.level e.name) ∷ [])) i ≡ []
    go true = refl
    go false = sent_elsewhere _ [] i ne
told_elsewhere e p i Inside ne = refl

-- nothing goes out on ports before p
told_before : (e : Entry) (p : ℕ) (xs : List PortState) (i : ℕ) → i < p → sent_on (told_from e p xs) i ≡ []
told_before e p [] i lt = refl
told_before e p (x ∷ xs) i lt =
    sent_append (told_as e p (joined_mark e p x.mark)) (told_from e (suc p) xs) i
    ∙ ap (λ a. a ++ sent_on (told_from e (suc p) xs) i) (told_elsewhere e p i (joined_mark e p x.mark) (λ z. omega (arith, lt, z)))
    ∙ told_before e (suc p) xs i (omega (arith, lt))

told_at : (e : Entry) (p : ℕ) (xs : List PortState) (i : ℕ) → i < length xs →
    sent_on (told_from e p xs) (p + i) ≡
    told_by e (joined_mark e (p + i) (slice_index_or xs i no_port).mark) (is_at e.parent (p + i))
told_at e p [] i lt = absurd (omega (arith, lt))
told_at e p (x ∷ xs) zero lt = subst
    (λ q. sent_on (told_from e p (x ∷ xs)) q ≡ told_by e (joined_mark e q x.mark) (is_at e.parent q))
    (let z : p ≡ p + 0 = omega arith in z)
    (sent_append (told_as e p (joined_mark e p x.mark)) (told_from e (suc p) xs) p
    ∙ ap (λ a. sent_on (told_as e p (joined_mark e p x.mark)) p ++ a) (told_before e (suc p) xs p (omega arith))
    ∙ append-nil _ ∙ told_here e p (joined_mark e p x.mark))
told_at e p (x ∷ xs) (suc i) lt =
    sent_append (told_as e p (joined_mark e p x.mark)) (told_from e (suc p) xs) (p + suc i)
    ∙ ap (λ a. a ++ sent_on (told_from e (suc p) xs) (p + suc i))
    (told_elsewhere e p (p + suc i) (joined_mark e p x.mark) (λ z. omega (arith, z)))
    ∙ subst (λ q. sent_on (told_from e (suc p) xs) q ≡ told_by e (joined_mark e q (slice_index_or xs i no_port).mark) (is_at e.parent q))
    (let z : suc p + i ≡ p + suc i = omega arith in z) (told_at e (suc p) xs i (omega (arith, lt)))

-- what goes out on each port of a node that enters
pub told_on : (n : State) (e : Entry) (i : ℕ) → i < degree n →
    sent_on (told_from e 0 n.ports) i ≡ told_by e (joined_mark e i (port_at n i).mark) (is_at e.parent i)
told_on n e i lt = subst
    (λ q. sent_on (told_from e 0 n.ports) q ≡ told_by e (joined_mark e q (port_at n i).mark) (is_at e.parent q))
    (let z : 0 + i ≡ i = omega arith in z) (told_at e 0 n.ports i lt)
