-- A search ends: the node's best is the least key that leaves the class from it or below it.
use Rattle.std.proofs.Common.{◌≡◌, ℕ, zero, suc, ◌+◌, ◌<◌, ◌≤◌, ◌&&◌, ◌||◌, nat_lt, ⊎_elim, Bool, true, false, Option, None, Some, List, [], ◌∷◌, length, refl, sym, ◌∙◌, ap, subst, cond, take, count_by, slice_index_or, arith, ltb-false}
use Rattle.std.proofs.lemmas.Bool.{cases_Bool}
use Rattle.std.specs.List.{Contains, position_from}
use Rattle.std.proofs.lemmas.Iterator.Adapters.{position_from-zero}
use Rattle.std.proofs.lemmas.List.Sums.{sum_by-cons}
use Rattle.std.proofs.lemmas.Option.{slice_get_within, get_or_from_slice_get}
use Rattle.ghs_graph.specs.declared.key.Key.{Key}
use Rattle.ghs_graph.specs.declared.port.Port.{Port}
use Rattle.ghs_graph.specs.Key.{ends_at}
use Rattle.ghs_graph.specs.Graph.{Shape}
use Rattle.ghs_graph.specs.Ports as ports
use Rattle.ghs_graph.specs.Ports.{HasPort, ports_of, port_on}
use Rattle.ghs_graph.proofs.lemmas.Ports as lemmas
use Rattle.peer_network.specs.Network.{network_of, InNetwork, At, port_at}
use Rattle.boruvka_node.specs.declared.port_state.PortState.{PortState}
use Rattle.boruvka_node.specs.Words.{is_basic}
use Rattle.boruvka_node.specs.State as state
use Rattle.boruvka_node.specs.State.{State, no_port, mark_at, is_missing, missing, least_basic}

-- Where nothing is missing: what each port says.

told_of : (o b c : Bool) → (o || (b && c)) ≡ false → (o ≡ false) × (b ≡ true → c ≡ false)
told_of true b c e = cc
told_of false true c e = (refl, λ t. e)
told_of false false c e = (refl, λ t. cc)

none_at : (l : ℕ) (ps : List PortState) → ◌≡◌ {A = ℕ} (count_by (is_missing l) ps) 0 → (i : ℕ) → is_missing l (slice_index_or ps i no_port) ≡ false
none_at l [] z i = refl
none_at l (x ∷ ps) z zero = ⊎_elim
    (λ t.
    let step = sum_by-cons (λ (y : PortState). cond (is_missing l y) 1 0) x ps in
    let one : ◌≡◌ {A = ℕ} (cond (is_missing l x) 1 0) 1 = ap (λ (b : Bool). let y : ℕ = cond b 1 0 in y) t in
    absurd (omega (arith, one, z, step)))
    (λ t. t)
    (cases_Bool (is_missing l x))
none_at l (x ∷ ps) z (suc i) =
    let step = sum_by-cons (λ (y : PortState). cond (is_missing l y) 1 0) x ps in none_at l ps (omega (arith, z, step)) i

module _ (n : State) (none : ◌≡◌ {A = ℕ} (missing n) 0) where
  parts : (i : ℕ) → ((state.port_at n i).owes ≡ false) × (is_basic (mark_at n i) ≡ true → nat_lt (state.port_at n i).level n.head.level ≡ false)
  parts i = told_of _ _ _ (none_at n.head.level n.ports none i)

  -- no Report is owed, and a Basic port was heard at the level
  pub paid_at : (i : ℕ) → (state.port_at n i).owes ≡ false
  paid_at i = (parts i).0

  pub heard_there : (i : ℕ) → is_basic (mark_at n i) ≡ true → n.head.level ≤ (state.port_at n i).level
  heard_there i b = ltb-false _ _ ((parts i).1 b)

-- The least Basic port is the first one.

pub record IsFirst (ps : List PortState) (p : ℕ) : Type 0 where
  pub within : p < length ps
  pub basic : is_basic (slice_index_or ps p no_port).mark ≡ true
  pub before : (i : ℕ) → is_basic (slice_index_or ps i no_port).mark ≡ true → p ≤ i

abbrev pub FirstIs : ℕ → List PortState → Option ℕ → Type 0
FirstIs s ps None = (i : ℕ) → is_basic (slice_index_or ps i no_port).mark ≡ false
FirstIs s ps (Some q) = (p : ℕ) × (q ≡ s + p) × IsFirst ps p

abbrev Test : PortState → Bool
Test x = is_basic x.mark

-- the same by the test of the first port
abbrev FirstBy : ℕ → PortState → List PortState → Bool → Type 0
FirstBy s x ps b = FirstIs s (x ∷ ps) (cond b (Some s) (position_from Test (s + 1) ps))

module _ (s : ℕ) (x : PortState) (ps : List PortState) where
  first_here : is_basic x.mark ≡ true → FirstBy s x ps (is_basic x.mark)
  first_here t = subst (FirstBy s x ps) (sym t) (0, (omega arith), record { within = omega arith; basic = t; before = λ i b. omega arith })

  module _ (t : is_basic x.mark ≡ false) where
    none_more : ((i : ℕ) → is_basic (slice_index_or ps i no_port).mark ≡ false) → (i : ℕ) → is_basic (slice_index_or (x ∷ ps) i no_port).mark ≡ false
    none_more h zero = t
    none_more h (suc i) = h i

    later : (p : ℕ) → IsFirst ps p → (i : ℕ) → is_basic (slice_index_or (x ∷ ps) i no_port).mark ≡ true → suc p ≤ i
    later p h zero b = cc (t, b)
    later p h (suc i) b = let le = h.before i b in omega (arith, le)

    next : (o : Option ℕ) → FirstIs (s + 1) ps o → FirstIs s (x ∷ ps) o
    next None h = none_more h
    next (Some q) h =
        let f = h.2 in
        let lt = f.within in
        (suc h.0, omega (arith, h.1), record { within = omega (arith, lt); basic = f.basic; before = later h.0 f })

    first_later : FirstIs (s + 1) ps (position_from Test (s + 1) ps) → FirstBy s x ps (is_basic x.mark)
    first_later h = subst (FirstBy s x ps) (sym t) (next (position_from Test (s + 1) ps) h)

first_from : (s : ℕ) (ps : List PortState) → FirstIs s ps (position_from (λ (x : PortState). is_basic x.mark) s ps)
first_from s [] = λ i. refl
first_from s (x ∷ ps) = let rest = first_from (s + 1) ps in
    ⊎_elim (λ t. first_here s x ps t) (λ t. first_later s x ps t rest) (cases_Bool (is_basic x.mark))

pub first_basic : (ps : List PortState) → FirstIs 0 ps (least_basic ps)
first_basic ps = subst (FirstIs 0 ps) (sym (position_from-zero Test ps)) (first_from 0 ps)

-- Ports and links.

-- each link that ends at a node is one of its ports
pub port_with : (gr : Shape) (v : ℕ) → InNetwork (network_of gr) v → (k : Key) → Contains gr.keys k → ends_at v k ≡ true →
    (p : ℕ) × At (network_of gr) v p × ((port_at (network_of gr) v p).key ≡ k)
port_with gr v here k is e = (i, within, ap (λ (x : Port). x.key) at_i ∙ is.2)
  where
    i : ℕ
    i = ports.degree (take is.0 gr.keys) v

    has : HasPort gr.keys v i (port_on gr.keys v (slice_index_or gr.keys is.0 k))
    has = lemmas.port_at gr.keys v is.0 k is.1 (subst (λ (x : Key). ends_at v x ≡ true) (sym is.2) e)

    within : At (network_of gr) v i
    within = record { some = here.some; node = here.node; port = slice_get_within (ports_of gr.keys v) i _ has }

    at_i : port_at (network_of gr) v i ≡ port_on gr.keys v (slice_index_or gr.keys is.0 k)
    at_i = get_or_from_slice_get (ports_of gr.keys v) i _ ports.no_port has
