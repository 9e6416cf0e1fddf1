-- Rows of lines that stand in one list.
use Rattle.std.proofs.Common.{zero, suc, ◌≡◌, ◌≢◌, ℕ, ◌+◌, ◌-◌, ◌<◌, ◌≤◌, ◌⊎◌, inl, inr, List, [], ◌∷◌, ◌++◌, length, set, drop, refl, sym, ◌∙◌, ap, ⊎_elim, slice_index, subst, arith, add-one, get_or-set_same, get_or-set_other, length-append, length-drop, length-set}
use Rattle.std.specs.List.{slice_index_or}
use Rattle.std.proofs.lemmas.Bool.{cases_eq, cases_lt}
use Rattle.std.proofs.lemmas.List.{get_or-take, get_or-drop, get_or_append_left, get_or_default, get_or_past, get_or_push, length-take}
use Rattle.ghs_graph.specs.Graph.{Shape, IsGraph}
use Rattle.ghs_graph.specs.Ports.{ports_of}
use Rattle.peer_network.specs.Sums.{sum_below}
use Rattle.peer_network.specs.Updates.{put_at}
use Rattle.peer_network.proofs.lemmas.Graphs.{twice_links}
use Rattle.peer_network.proofs.lemmas.Updates.{put_at_hit, put_at_miss}
use Rattle.peer_chains.specs.Kept.{ChangesLine, line_at, line_of}
use Rattle.peer_chains.specs.Rows.{AreBases, AreRising, part, rows_from, rows_on}

-- node u has a port q
pub record IsPort (bases : List ℕ) (u q : ℕ) : Type 0 where
  pub node : u + 1 < length bases
  pub port : slice_index bases u + q < slice_index bases (u + 1)

pub port_or_not : (bases : List ℕ) (u q : ℕ) → IsPort bases u q ⊎ (IsPort bases u q → ⊥)
port_or_not bases u q = ⊎_elim
    (λ (node : u + 1 < length bases). ⊎_elim
    (λ (port : slice_index bases u + q < slice_index bases (u + 1)). inl (record { node = node; port = port }))
    (λ (le : slice_index bases (u + 1) ≤ slice_index bases u + q). inr (λ h. let p = h.port in omega arith))
    (cases_lt (slice_index bases u + q) (slice_index bases (u + 1))))
    (λ (le : length bases ≤ u + 1). inr (λ h. let n = h.node in omega arith))
    (cases_lt (u + 1) (length bases))

on_length : (base : ℕ) (bases : List ℕ) (lines : List (List ℕ)) → length (rows_on base bases lines) ≡ length bases
on_length base [] lines = refl
on_length base (next ∷ bases) lines = ap suc (on_length next bases lines)

on_row : (base : ℕ) (bases : List ℕ) (lines : List (List ℕ)) (v : ℕ) → v < length bases →
    slice_index_or (rows_on base bases lines) v [] ≡ part lines (slice_index (base ∷ bases) v) (slice_index (base ∷ bases) (suc v))
on_row base [] lines v lt = absurd (omega arith)
on_row base (next ∷ bases) lines zero lt = refl
on_row base (next ∷ bases) lines (suc v) lt = on_row next bases lines v (omega arith)

pub rows_length : (bases : List ℕ) (lines : List (List ℕ)) → length (rows_from bases lines) ≡ length bases - 1
unfolding rows_from
rows_length [] lines = refl
rows_length (base ∷ bases) lines = let l = on_length base bases lines in omega arith

row_is : (bases : List ℕ) (lines : List (List ℕ)) (v : ℕ) → v + 1 < length bases →
    slice_index_or (rows_from bases lines) v [] ≡ part lines (slice_index bases v) (slice_index bases (v + 1))
unfolding rows_from
row_is [] lines v lt = absurd (omega arith)
row_is (base ∷ bases) lines v lt = rw add-one (on_row base bases lines v (omega arith))

row_past : (bases : List ℕ) (lines : List (List ℕ)) (v : ℕ) → length bases ≤ v + 1 → slice_index_or (rows_from bases lines) v [] ≡ []
row_past bases lines v le = get_or_past (rows_from bases lines) v [] (let l = rows_length bases lines in omega arith)

-- what stands at a port, and that nothing stands where none is
pub line_is : (bases : List ℕ) (lines : List (List ℕ)) (u q : ℕ) → IsPort bases u q →
    line_of (rows_from bases lines) u q ≡ slice_index_or lines (slice_index bases u + q) []
line_is bases lines u q at =
    let from = slice_index bases u in
    let to = slice_index bases (u + 1) in
    ap (λ (r : List (List ℕ)). line_at r q) (row_is bases lines u at.node)
    ∙ get_or-take (to - from) (drop from lines) q [] (let p = at.port in omega arith) ∙ get_or-drop from lines q []

pub line_none : (bases : List ℕ) (lines : List (List ℕ)) (u q : ℕ) → (IsPort bases u q → ⊥) → line_of (rows_from bases lines) u q ≡ []
line_none bases lines u q off = ⊎_elim
    (λ (node : u + 1 < length bases). ⊎_elim
    (λ (port : slice_index bases u + q < slice_index bases (u + 1)). absurd (off (record { node = node; port = port })))
    (λ (le : slice_index bases (u + 1) ≤ slice_index bases u + q).
    ap (λ (r : List (List ℕ)). line_at r q) (row_is bases lines u node)
    ∙ get_or_past (part lines (slice_index bases u) (slice_index bases (u + 1))) q []
    (let t = length-take (slice_index bases (u + 1) - slice_index bases u) (drop (slice_index bases u) lines) in omega arith))
    (cases_lt (slice_index bases u + q) (slice_index bases (u + 1))))
    (λ (le : length bases ≤ u + 1). ap (λ (r : List (List ℕ)). line_at r q) (row_past bases lines u le) ∙ get_or_past [] q [] (omega arith))
    (cases_lt (u + 1) (length bases))

-- a port of a row is among the lines
pub port_in : (bases : List ℕ) (lines : List (List ℕ)) (v p : ℕ) → v < length (rows_from bases lines) →
    p < length (slice_index_or (rows_from bases lines) v []) → IsPort bases v p × (slice_index bases v + p < length lines)
port_in bases lines v p node port =
    let from = slice_index bases v in
    let to = slice_index bases (v + 1) in
    let l = rows_length bases lines in
    let there : v + 1 < length bases = omega arith in
    let is = ap (λ (r : List (List ℕ)). length r) (row_is bases lines v there) in
    let taken = length-take (to - from) (drop from lines) in
    let dropped = length-drop from lines in
    (record { node = there; port = omega arith }, omega arith)

-- two ports at one place are one
one_port : (bases : List ℕ) → AreRising bases → (u q v p : ℕ) → IsPort bases u q → IsPort bases v p →
    slice_index bases u + q ≡ slice_index bases v + p → (u ≡ v) × (q ≡ p)
one_port bases rising u q v p a b is = ⊎_elim
    (λ (e : u ≡ v). let f : slice_index bases u ≡ slice_index bases v = ap (λ (n : ℕ). slice_index bases n) e in (e, omega arith))
    (λ (ne : u ≢ v). ⊎_elim
    (λ (lt : u < v). let n = b.node in let r = rising.rise (u + 1) v (omega arith) (omega arith) in let x = a.port in absurd (omega arith))
    (λ (le : v ≤ u). let n = a.node in let r = rising.rise (v + 1) u (omega arith) (omega arith) in let x = b.port in absurd (omega arith))
    (cases_lt u v)) (cases_eq u v)

row_length : (bases : List ℕ) (lines new : List (List ℕ)) (u : ℕ) → length new ≡ length lines →
    length (slice_index_or (rows_from bases new) u []) ≡ length (slice_index_or (rows_from bases lines) u [])
row_length bases lines new u same = ⊎_elim
    (λ (node : u + 1 < length bases).
    let from = slice_index bases u in
    let to = slice_index bases (u + 1) in
    let a = ap (λ (r : List (List ℕ)). length r) (row_is bases lines u node) in
    let b = ap (λ (r : List (List ℕ)). length r) (row_is bases new u node) in
    let c = length-take (to - from) (drop from lines) in
    let d = length-take (to - from) (drop from new) in
    let e = length-drop from lines in
    let f = length-drop from new in
    omega arith)
    (λ (le : length bases ≤ u + 1). ap (λ (r : List (List ℕ)). length r) (row_past bases new u le ∙ sym (row_past bases lines u le)))
    (cases_lt (u + 1) (length bases))

-- another line in the list is another line at its port, and at no other
pub line_set : (bases : List ℕ) (lines : List (List ℕ)) (v p at : ℕ) (line : List ℕ) → AreRising bases → v < length (rows_from bases lines) →
    p < length (slice_index_or (rows_from bases lines) v []) → at ≡ slice_index bases v + p →
    ChangesLine (rows_from bases lines) (rows_from bases (set lines at line)) v p line
line_set bases lines v p at line rising node port is = record {
  count = rows_length bases (set lines at line) ∙ sym (rows_length bases lines);
  ports = λ u. row_length bases lines (set lines at line) u (length-set lines at line);
  lines = λ u q. ⊎_elim (there u q) (nowhere u q) (port_or_not bases u q);
}
  where
    place : IsPort bases v p × (slice_index bases v + p < length lines)
    place = port_in bases lines v p node port

    there : (u q : ℕ) → IsPort bases u q → line_of (rows_from bases (set lines at line)) u q ≡ put_at (line_of (rows_from bases lines)) v p line u q
    there u q h = line_is bases (set lines at line) u q h ∙ ⊎_elim
        (λ (e : slice_index bases u + q ≡ at).
        let one = one_port bases rising u q v p h place.0 (e ∙ is) in
        ap (λ (i : ℕ). slice_index_or (set lines at line) i []) e ∙ get_or-set_same lines at line [] (let w = place.1 in omega arith)
        ∙ sym (put_at_hit (line_of (rows_from bases lines)) v p u q line one.0 one.1))
        (λ (ne : slice_index bases u + q ≢ at).
        get_or-set_other lines at (slice_index bases u + q) line [] ne ∙ sym (line_is bases lines u q h)
        ∙ sym (put_at_miss (line_of (rows_from bases lines)) v p u q line
        (λ z. ne (ap (λ (a : ℕ). slice_index bases a + q) z.0 ∙ ap (λ (b : ℕ). slice_index bases v + b) z.1 ∙ sym is))))
        (cases_eq (slice_index bases u + q) at)

    nowhere : (u q : ℕ) → (IsPort bases u q → ⊥) →
        line_of (rows_from bases (set lines at line)) u q ≡ put_at (line_of (rows_from bases lines)) v p line u q
    nowhere u q off =
        line_none bases (set lines at line) u q off ∙ sym (line_none bases lines u q off)
        ∙ sym (put_at_miss (line_of (rows_from bases lines)) v p u q line (λ z. off (rw (z.0, z.1) place.0)))

-- so the line that was read at a place is that of the port
pub line_read : (bases : List ℕ) (lines : List (List ℕ)) (v p at : ℕ) (line : List ℕ) → v < length (rows_from bases lines) →
    p < length (slice_index_or (rows_from bases lines) v []) → at ≡ slice_index bases v + p → line ≡ slice_index_or lines at line →
    line ≡ line_of (rows_from bases lines) v p
line_read bases lines v p at line node port is read =
    let place = port_in bases lines v p node port in
    read ∙ get_or_default lines at line [] (let w = place.1 in omega arith)
    ∙ ap (λ (i : ℕ). slice_index_or lines i []) is ∙ sym (line_is bases lines v p place.0)

-- and what was made of it is made of that of the port
pub line_made : (bases : List ℕ) (lines : List (List ℕ)) (v p at : ℕ) (old new : List ℕ) (make : List ℕ → List ℕ) → AreRising bases →
    v < length (rows_from bases lines) → p < length (slice_index_or (rows_from bases lines) v []) → at ≡ slice_index bases v + p →
    old ≡ slice_index_or lines at old → new ≡ make old →
    ChangesLine (rows_from bases lines) (rows_from bases (set lines at new)) v p (make (line_of (rows_from bases lines) v p))
line_made bases lines v p at old new make rising node port is read made =
    let same : new ≡ make (line_of (rows_from bases lines) v p) = made ∙ ap make (line_read bases lines v p at old node port is read) in
    subst (λ (l : List ℕ). ChangesLine (rows_from bases lines) (rows_from bases (set lines at new)) v p l) same
    (line_set bases lines v p at new rising node port is)

pub node_in : (bases : List ℕ) (lines : List (List ℕ)) (v : ℕ) → v < length (rows_from bases lines) → v < length bases
node_in bases lines v node = let l = rows_length bases lines in omega arith

pub place_in : (bases : List ℕ) (lines : List (List ℕ)) (v p at : ℕ) → v < length (rows_from bases lines) →
    p < length (slice_index_or (rows_from bases lines) v []) → at ≡ slice_index bases v + p → at < length lines
place_in bases lines v p at node port is = let w = (port_in bases lines v p node port).1 in omega arith

-- where no line of the list has a number, none of the rows has
pub none_of : (bases : List ℕ) (lines : List (List ℕ)) → ((i : ℕ) → slice_index_or lines i [] ≡ []) → (v p : ℕ) →
    line_of (rows_from bases lines) v p ≡ []
none_of bases lines none v p = ⊎_elim
    (λ (h : IsPort bases v p). line_is bases lines v p h ∙ none (slice_index bases v + p))
    (λ off. line_none bases lines v p off) (port_or_not bases v p)

-- each node has as many lines as ports
pub ports_length : (g : Shape) (n : ℕ) (bases : List ℕ) (lines : List (List ℕ)) → AreBases g n bases → length lines ≡ slice_index bases (n + 1) →
    (v : ℕ) → 1 ≤ v → v ≤ n → length (slice_index_or (rows_from bases lines) v []) ≡ length (ports_of g.keys v)
ports_length g n bases lines b all v low high =
    let from = slice_index bases v in
    let to = slice_index bases (v + 1) in
    let count = b.count in
    let node : v + 1 < length bases = omega arith in
    let a = ap (λ (r : List (List ℕ)). length r) (row_is bases lines v node) in
    let c = length-take (to - from) (drop from lines) in
    let d = length-drop from lines in
    let e = b.ports v low high in
    let f = b.rising.rise (v + 1) (n + 1) (omega arith) (omega arith) in
    omega arith

-- no node yet
pub no_bases : (g : Shape) → AreBases g 0 (0 ∷ 0 ∷ [])
no_bases g = record { count = refl; rising = record { rise = rise }; ports = λ v low high. absurd (omega arith) }
  where
    at : (u : ℕ) → slice_index (0 ∷ 0 ∷ []) u ≡ 0
    at zero = refl
    at (suc zero) = refl
    at (suc (suc u)) = refl

    rise : (u v : ℕ) → u ≤ v → v < length {A = ℕ} (0 ∷ 0 ∷ []) → slice_index (0 ∷ 0 ∷ []) u ≤ slice_index (0 ∷ 0 ∷ []) v
    rise u v le lt = let a = at u in let b = at v in omega arith

-- a node more
pub bases_more : (g : Shape) (n : ℕ) (bases : List ℕ) (end d : ℕ) → AreBases g n bases → end ≡ slice_index bases (n + 1) →
    d ≡ length (ports_of g.keys (n + 1)) →
    AreBases g (n + 1) (bases ++ (end + d) ∷ [])
bases_more g n bases end d b last is = record {
  count = let c = b.count in let l = length-append bases ((end + d) ∷ []) in omega arith;
  rising = record { rise = rise };
  ports = ports;
}
  where
    before : (u : ℕ) → u < length bases → slice_index (bases ++ (end + d) ∷ []) u ≡ slice_index bases u
    before u lt = get_or_append_left bases ((end + d) ∷ []) 0 u lt

    at_end : (u : ℕ) → length bases ≡ u → slice_index (bases ++ (end + d) ∷ []) u ≡ end + d
    at_end u e = get_or_push bases (end + d) 0 u e

    long : length (bases ++ (end + d) ∷ []) ≡ length bases + 1
    long = let l = length-append bases ((end + d) ∷ []) in omega arith

    rise : (u v : ℕ) → u ≤ v → v < length (bases ++ (end + d) ∷ []) →
        slice_index (bases ++ (end + d) ∷ []) u ≤ slice_index (bases ++ (end + d) ∷ []) v
    rise u v le lt = ⊎_elim
        (λ (h : v < length bases). let a = before u (omega arith) in let c = before v h in let r = b.rising.rise u v le h in omega arith)
        (λ (h : length bases ≤ v).
        let c = at_end v (let l = long in omega arith) in
        ⊎_elim
        (λ (k : u < length bases). let a = before u k in let m = b.count in
        let r = b.rising.rise u (n + 1) (omega arith) (omega arith) in omega arith)
        (λ (k : length bases ≤ u). let a = at_end u (let l = long in omega arith) in omega arith) (cases_lt u (length bases)))
        (cases_lt v (length bases))

    ports : (v : ℕ) → 1 ≤ v → v ≤ n + 1 →
        slice_index (bases ++ (end + d) ∷ []) (v + 1) ≡ slice_index (bases ++ (end + d) ∷ []) v + length (ports_of g.keys v)
    ports v low high = ⊎_elim
        (λ (h : v < n + 1). let m = b.count in let a = before v (omega arith) in let c = before (v + 1) (omega arith) in
        let p = b.ports v low (omega arith) in omega arith)
        (λ (h : n + 1 ≤ v).
        let m = b.count in
        let e : v ≡ n + 1 = omega arith in
        let a = before v (omega arith) in
        let c = at_end (v + 1) (omega arith) in
        let p = ap (λ (k : ℕ). length (ports_of g.keys k)) e in
        let q = ap (λ (k : ℕ). slice_index bases k) e in
        omega arith)
        (cases_lt v (n + 1))

-- how many ports the nodes 1 to n have
abbrev pub ports_below : Shape → ℕ → ℕ
ports_below g n = sum_below n (λ i. length (ports_of g.keys (suc i)))

below_longer : (g : Shape) (m n : ℕ) → n ≤ m → ports_below g n ≤ ports_below g m
below_longer g zero n le = let e : n ≡ 0 = omega arith in rw e (omega arith)
below_longer g (suc m) n le = ⊎_elim
    (λ (lt : n < suc m). let r = below_longer g m n (omega arith) in omega arith)
    (λ (ge : suc m ≤ n). let e : n ≡ suc m = omega arith in rw e (omega arith))
    (cases_lt n (suc m))

-- with a node more the places still fit
pub ports_few : (g : Shape) → IsGraph g → (n d end : ℕ) → n < g.nodes → end ≡ ports_below g n → d ≡ length (ports_of g.keys (n + 1)) →
    (end + d ≡ ports_below g (n + 1)) × (end + d ≤ 16777216)
ports_few g graph n d end lt e f =
    let up : n + 1 ≡ suc n = omega arith in
    let here : d ≡ length (ports_of g.keys (suc n)) = rw up at f in
    let next : end + d ≡ ports_below g (n + 1) = rw up (omega arith) in
    let all = twice_links g graph in
    let front = below_longer g g.nodes (n + 1) (omega arith) in
    let links = graph.links in
    (next, omega arith)
