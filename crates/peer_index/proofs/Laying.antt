-- Bases laid one after another.
use Rattle.std.proofs.Common.{◌≡◌, ℕ, zero, suc, ◌+◌, ◌-◌, ◌<◌, ◌≤◌, List, [], ◌∷◌, ◌++◌, length, map, replicate, false, get_or, refl, ◌∙◌, ap, ⊎_elim, arith, length-append}
use Rattle.std.proofs.lemmas.Bool.{cases_lt}
use Rattle.std.proofs.lemmas.List.{get_or_push, get_or_append_left, get_or_default}
use Rattle.ghs_graph.specs.Graph.{Shape, IsGraph}
use Rattle.ghs_graph.specs.Ports.{ports_of}
use Rattle.peer_network.specs.declared.event.Event.{Event}
use Rattle.peer_network.specs.Network.{Network, network_of}
use Rattle.peer_network.proofs.lemmas.Graphs.{twice_links}
use Rattle.peer_index.specs.Places.{events_to, all_events}
use Rattle.peer_index.specs.Index.{AreBases}
use Rattle.peer_index.proofs.lemmas.Places.{length_next, length_to, longer}

pub few_events : (g : Shape) → IsGraph g → length (all_events (network_of g)) ≤ 33554432
few_events g graph =
    let all = length_to (network_of g) g.nodes in
    let twice = twice_links g graph in
    let nodes = graph.nodes in
    let links = graph.links in
    omega arith

-- with one node more there is still room
pub fits_more : (g : Shape) → IsGraph g → (n d end : ℕ) → n < g.nodes → end ≡ length (events_to (network_of g) n) →
    d ≡ length (ports_of g.keys (n + 1)) → end + (d + 1) ≤ 33554432
fits_more g graph n d end lt e f =
    let all = few_events g graph in
    let front = longer (network_of g) g.nodes (suc n) lt in
    let next = length_next (network_of g) n in
    let up : n + 1 ≡ suc n = omega arith in
    let same : d ≡ length (ports_of g.keys (suc n)) = rw up at f in
    omega arith

pub no_bases : (g : Network) → AreBases g 0 (0 ∷ 0 ∷ [])
no_bases g = record { count = refl; base = first }
  where
    first : (m : ℕ) → m ≤ 0 → get_or {A = ℕ} (0 ∷ 0 ∷ []) (suc m) 0 ≡ length (events_to g m)
    first zero le = refl
    first (suc m) le = absurd (omega arith)

pub bases_more : (g : Network) (n : ℕ) (bases new : List ℕ) (end d : ℕ) → AreBases g n bases → end ≡ length (events_to g n) →
    d ≡ length (g.ports (n + 1)) → new ≡ bases ++ (end + (d + 1)) ∷ [] → AreBases g (n + 1) new × (end + (d + 1) ≡ length (events_to g (n + 1)))
bases_more g n bases new end d b e f is =
    rw is (
      record {
        count = let c = b.count in let l = length-append bases ((end + (d + 1)) ∷ []) in omega arith;
        base = at;
      },
      last,
    )
  where
    last : end + (d + 1) ≡ length (events_to g (n + 1))
    last =
        let up : n + 1 ≡ suc n = omega arith in
        let next = length_next g n in
        let same : d ≡ length (g.ports (suc n)) = rw up at f in
        rw up (omega arith)

    at : (m : ℕ) → m ≤ n + 1 → get_or (bases ++ (end + (d + 1)) ∷ []) (suc m) 0 ≡ length (events_to g m)
    at m le = ⊎_elim
        (λ (lt : m < n + 1). get_or_append_left bases ((end + (d + 1)) ∷ []) 0 (suc m) (let c = b.count in omega arith) ∙ b.base m (omega arith))
        (λ (ge : n + 1 ≤ m). let z : m ≡ n + 1 = omega arith in
        rw z (get_or_push bases (end + (d + 1)) 0 (suc (n + 1)) (let c = b.count in omega arith) ∙ last))
        (cases_lt m (n + 1))

-- the last base, whatever stands for what lies past the end
pub last_base : (g : Network) (n : ℕ) (bases : List ℕ) (i d : ℕ) → AreBases g n bases → i ≡ length bases - 1 →
    get_or bases i d ≡ length (events_to g n)
last_base g n bases i d b e =
    let c = b.count in
    let at : i ≡ suc n = omega arith in
    get_or_default bases i d 0 (omega arith) ∙ ap (λ (k : ℕ). get_or bases k 0) at ∙ b.base n (omega arith)

pub all_false : (es : List Event) (n : ℕ) → n ≡ length es → replicate n false ≡ map (λ (e : Event). false) es
all_false es n e = rw e (same es)
  where
    same : (es : List Event) → replicate (length es) false ≡ map (λ (e : Event). false) es
    same [] = refl
    same (e ∷ es) = ap (λ bs. false ∷ bs) (same es)
