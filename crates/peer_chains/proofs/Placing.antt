-- What a change of a number or of a line makes of the chains.
use Rattle.std.proofs.Common.{suc, ◌≡◌, ◌≢◌, ℕ, Bool, ◌+◌, ◌<◌, ◌≤◌, Some, None, List, [], ◌∷◌, ◌++◌, length, set, take, refl, sym, ◌∙◌, ap, ⊎_elim, slice_index, replicate, arith, get_or-set_same, get_or-set_other, add-one}
use Rattle.std.specs.List.{slice_get, slice_index_or}
use Rattle.std.proofs.Math.Path.{fun_ext}
use Rattle.std.proofs.lemmas.Bool.{cases_eq, cases_lt}
use Rattle.std.proofs.lemmas.List.{get_or-replicate, get_or_past, length-replicate, take_more}
use Rattle.peer_network.specs.Network.{Network, far, far_port}
use Rattle.peer_network.specs.Updates.{put, put_at}
use Rattle.peer_network.proofs.lemmas.Updates.{put_same, put_other}
use Rattle.peer_chains.specs.Chains.{Chains, behind, heard, no_chains, sent, sent_on, taken, with_last}
use Rattle.peer_chains.specs.Kept.{ChangesLine, Kept, line_at, line_of, row_of, seen, stepped}
use Rattle.peer_chains.proofs.lemmas.Hears.{put_at_none, sent_node}

-- chains with these queues, and with these numbers
abbrev pub with_queue : Chains → (ℕ → ℕ → List ℕ) → Chains
with_queue c q = record { node = c.node; queue = q }

abbrev pub with_both : (ℕ → ℕ) → (ℕ → ℕ → List ℕ) → Chains
with_both n q = record { node = n; queue = q }

-- the queues with one changed
pub rows_placed : (rows rows' : List (List (List ℕ))) (v p : ℕ) (line : List ℕ) → ChangesLine rows rows' v p line →
    line_of rows' ≡ put_at (line_of rows) v p line
rows_placed rows rows' v p line c = fun_ext (λ u. fun_ext (c.lines u))

-- the numbers with one number changed
pub numbers_placed : (numbers : List ℕ) (v n : ℕ) → v < length numbers →
    (λ (u : ℕ). slice_index (set numbers v n) u) ≡ put (λ u. slice_index numbers u) v n
numbers_placed numbers v n lt = fun_ext (λ u. ⊎_elim (here u) (there u) (cases_eq u v))
  where
    here : (u : ℕ) → u ≡ v → slice_index (set numbers v n) u ≡ put (λ w. slice_index numbers w) v n u
    here u e = rw e (get_or-set_same numbers v n 0 lt ∙ sym (put_same (λ w. slice_index numbers w) v n))

    there : (u : ℕ) → u ≢ v → slice_index (set numbers v n) u ≡ put (λ w. slice_index numbers w) v n u
    there u ne = get_or-set_other numbers v u n 0 ne ∙ sym (put_other (λ w. slice_index numbers w) v u n ne)

-- no number was there
pub none_taken : (k k' : Kept) (v p : ℕ) (asleep : Bool) (f : Bool) → k'.numbers ≡ k.numbers →
    ChangesLine k.rows k'.rows v p (stepped f (line_of k.rows v p)) →
    None ≡ slice_get (line_of k.rows v p) 0 →
    seen k' ≡ taken v p asleep f ((seen k).queue v p) (seen k)
unfolding seen
none_taken k k' v p asleep f numbers c none = go (line_of k.rows v p) refl c none
  where
    go : (line : List ℕ) → line_of k.rows v p ≡ line → ChangesLine k.rows k'.rows v p (stepped f line) → None ≡ slice_get line 0 →
        seen k' ≡ taken v p asleep f line (seen k)
    go [] e d n =
        let queue = rows_placed k.rows k'.rows v p [] d ∙ put_at_none (line_of k.rows) v p [] (sym e) in
        rw numbers (ap (with_queue (seen k)) queue)
    go (t ∷ ts) e d n = cc

-- one was
pub one_taken : (k k' : Kept) (v p : ℕ) (asleep : Bool) (f : Bool) (t n : ℕ) → v < length k.numbers →
    k'.numbers ≡ set k.numbers v n → n ≡ heard f asleep (slice_index k.numbers v) t →
    ChangesLine k.rows k'.rows v p (stepped f (line_of k.rows v p)) →
    Some t ≡ slice_get (line_of k.rows v p) 0 →
    seen k' ≡ taken v p asleep f ((seen k).queue v p) (seen k)
unfolding seen
one_taken k k' v p asleep f t n lt numbers value c some = go (line_of k.rows v p) c some
  where
    go : (line : List ℕ) → ChangesLine k.rows k'.rows v p (stepped f line) → Some t ≡ slice_get line 0 → seen k' ≡ taken v p asleep f line (seen k)
    go [] d s = cc
    go (x ∷ ts) d s =
        let same : t ≡ x = cc in
        let queue = rows_placed k.rows k'.rows v p (behind f x ts) d in
        let node = ap (λ (l : List ℕ). (λ (u : ℕ). slice_index l u)) numbers ∙ numbers_placed k.numbers v n lt
        ∙ ap (λ (m : ℕ). put (λ u. slice_index k.numbers u) v m) (value ∙ ap (heard f asleep (slice_index k.numbers v)) same) in
        ap (λ (m : ℕ → ℕ). with_both m (seen k').queue) node ∙ ap (with_both (put (seen k).node v (heard f asleep ((seen k).node v) x))) queue

pub sent_last : {M : Type 0} (g : Network) (v : ℕ) (ss : List (ℕ × M)) (s : ℕ × M) (c : Chains) →
    sent g v (ss ++ s ∷ []) c ≡ sent_on g v s.0 (sent g v ss c)
sent_last g v [] s c = refl
sent_last g v (x ∷ ss) s c = sent_last g v ss s (sent_on g v x.0 c)

-- a message more waits
pub one_pushed : (k k' : Kept) (v p n : ℕ) → k'.numbers ≡ k.numbers → ChangesLine k.rows k'.rows v p (line_of k.rows v p ++ n ∷ []) →
    seen k' ≡ with_last v p n (seen k)
unfolding seen
one_pushed k k' v p n numbers c =
    let queue = rows_placed k.rows k'.rows v p (line_of k.rows v p ++ n ∷ []) c in
    rw numbers (ap (with_queue (seen k)) queue)

-- messages that are one go out on one port
pub one_port : {M : Type 0} (x s : ℕ × M) → x ≡ s → x.0 ≡ s.0
one_port {M} x s e = ap (λ (y : ℕ × M). y.0) e

-- one message more is out
pub one_sent : {M : Type 0} (g : Network) (v i n : ℕ) (ss : List (ℕ × M)) (s : ℕ × M) (old k k' : Kept) →
    i < length ss →
    seen k ≡ sent g v (take i ss) (seen old) →
    n ≡ slice_index old.numbers v + 1 →
    seen k' ≡ with_last (far g v (slice_index_or ss i s).0) (far_port g v (slice_index_or ss i s).0) n (seen k) →
    seen k' ≡ sent g v (take (i + 1) ss) (seen old)
unfolding seen
one_sent {M} g v i n ss s old k k' lt before value here =
    let m = slice_index_or ss i s in
    let number : n ≡ suc ((seen k).node v) =
    value ∙ add-one (slice_index old.numbers v)
    ∙ ap (λ (f : ℕ → ℕ). suc (f v)) (sym (sent_node g v (take i ss) (seen old)) ∙ ap (λ (x : Chains). x.node) (sym before)) in
    here ∙ ap (λ (x : ℕ). with_last (far g v m.0) (far_port g v m.0) x (seen k)) number
    ∙ ap (sent_on g v m.0) before ∙ sym (sent_last g v (take i ss) m (seen old))
    ∙ ap (λ (l : List (ℕ × M)). sent g v l (seen old)) (sym (take_more ss i s lt))

-- no number anywhere
pub none_seen : (k : Kept) → ((v : ℕ) → slice_index k.numbers v ≡ 0) → ((v p : ℕ) → line_at (row_of k v) p ≡ []) → seen k ≡ no_chains
unfolding seen
none_seen k numbers lines =
    let node : (λ (v : ℕ). slice_index k.numbers v) ≡ (λ (v : ℕ). 0) = fun_ext numbers in
    let queue : (λ (v p : ℕ). line_at (row_of k v) p) ≡ (λ (v p : ℕ). []) = fun_ext (λ v. fun_ext (lines v)) in
    ap (λ (m : ℕ → ℕ). with_both m (seen k).queue) node ∙ ap (with_both (λ v. 0)) queue

-- so many zeros
pub zeros : (n v : ℕ) (numbers : List ℕ) → numbers ≡ replicate n 0 → slice_index numbers v ≡ 0
zeros n v numbers is =
    rw is (⊎_elim (λ (lt : v < n). get_or-replicate n v 0 0 lt)
    (λ (le : n ≤ v). get_or_past (replicate n 0) v 0 (let a : length {A = ℕ} (replicate n 0) ≡ n = length-replicate n 0 in omega arith))
    (cases_lt v n))
