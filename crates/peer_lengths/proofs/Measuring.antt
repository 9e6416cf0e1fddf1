-- Messages measured, more and more of them.
use Rattle.std.proofs.Common.{◌≡◌, ℕ, suc, ◌+◌, ◌*◌, ◌<◌, ◌≤◌, ◌^◌, ◌==◌, cond, max, List, [], ◌∷◌, ◌++◌, length, take, get_or, refl, sym, ◌∙◌, ap, subst, arith, length-append, eq-eqb, ne_eqb}
use Rattle.std.proofs.lemmas.List.{length-map, map-append, take_more}
use Rattle.ghs_graph.specs.Graph.{Shape}
use Rattle.peer_network.specs.declared.event.Event.{Event}
use Rattle.peer_network.specs.Sums.{sum_below}
use Rattle.peer_network.specs.Network.{network_of}
use Rattle.peer_network.proofs.lemmas.Sums.{sum_add, sum_none, sum_one}
use Rattle.peer_machine.specs.Rules.{Rules, Outgoing, HasKinds, messages}
use Rattle.peer_machine.specs.Net.{Net}
use Rattle.peer_machine.specs.Protocol.{IsBoundedBy, FitsGraphs}
use Rattle.peer_net.specs.NetState.{NetState, network, net_of}
use Rattle.peer_lengths.specs.declared.sent.Sent.{Sent}
use Rattle.peer_lengths.specs.Sends.{all_sent, bits_in, bits_of_kind, longest_in}
use Rattle.peer_lengths.specs.Kept.{AreMeasured}
use Rattle.peer_lengths.specs.Laws.{BitsAreByKind, BitsAreWithin}
use Rattle.peer_lengths.proofs.lemmas.Sending.{all_counted}
use Rattle.peer_lengths.proofs.Playing.{Played, before, count_more, few, sent_more}

-- one more, of at most k
one_within : (a s n k : ℕ) → s ≤ n * k → a ≤ k → a + s ≤ suc n * k
one_within a s n k rest here = omega (arith, rest, here)

module _ {S M : Type 0} (r : Rules S M) (g : Shape) where
  bits_append : (a b : List M) → bits_in r g (a ++ b) ≡ bits_in r g a + bits_in r g b
  bits_append [] b = omega arith
  bits_append (m ∷ a) b = omega (arith, bits_append a b)

  longest_append : (a b : List M) → longest_in r g (a ++ b) ≡ max (longest_in r g a) (longest_in r g b)
  longest_append [] b = omega arith
  longest_append (m ∷ a) b = omega (arith, longest_append a b)

  -- some messages are measured, and then others
  both_measured : (a b : List M) (s t u : Sent) → AreMeasured r g a s → AreMeasured r g b t → u.count ≡ s.count + t.count →
      u.bits ≡ s.bits + t.bits → u.longest ≡ max s.longest t.longest → AreMeasured r g (a ++ b) u
  both_measured a b s t u x y count bits longest = record {
    count = let n = x.count in let k = y.count in omega (arith, n, k, count, length-append a b);
    bits = let n = x.bits in let k = y.bits in omega (arith, n, k, bits, bits_append a b);
    longest = let n = x.longest in let k = y.longest in omega (arith, n, k, longest, longest_append a b);
    few = let n = x.few in let k = y.few in omega (arith, n, k, count, bits);
  }

  -- messages have so many bits, and the longest so many
  pub record ComeTo (ms : List M) (b n : ℕ) : Type 0 where
    pub bits : b ≡ bits_in r g ms
    pub longest : n ≡ longest_in r g ms

  -- one message more
  pub one_measured : (ss : Outgoing M) (i : ℕ) (d : ℕ × M) (b n b' n' k : ℕ) → i < length ss → ComeTo (messages (take i ss)) b n →
      k ≡ r.bits g (get_or ss i d).1 → b' ≡ b + k → n' ≡ max n k → ComeTo (messages (take (i + 1) ss)) b' n'
  one_measured ss i d b n b' n' k lt come is bits longest =
      let x = get_or ss i d in
      let next : messages (take (i + 1) ss) ≡ messages (take i ss) ++ x.1 ∷ [] =
      ap (λ (l : Outgoing M). messages l) (take_more ss i d lt) ∙ map-append (λ (s : ℕ × M). s.1) (take i ss) (x ∷ []) in
      record {
        bits =
            let e = ap (bits_in r g) next in
            let f = bits_append (messages (take i ss)) (x.1 ∷ []) in
            let old = come.bits in
            omega (arith, e, f, old, is, bits);
        longest =
            let e = ap (longest_in r g) next in
            let f = longest_append (messages (take i ss)) (x.1 ∷ []) in
            let old = come.longest in
            omega (arith, e, f, old, is, longest);
      }

  -- all of them
  pub all_measured : (ss : Outgoing M) (i : ℕ) (s : Sent) → take i ss ≡ ss → s.count ≡ length ss → s.bits ≤ 2 ^ 32 * s.count →
      ComeTo (messages (take i ss)) s.bits s.longest → AreMeasured r g (messages ss) s
  all_measured ss i s all count few come =
      let same = ap (λ (l : Outgoing M). messages l) all in
      record {
        count = count ∙ sym (length-map ss (λ (x : ℕ × M). x.1));
        bits = come.bits ∙ ap (bits_in r g) same;
        longest = come.longest ∙ ap (longest_in r g) same;
        few = few;
      }

  -- no more than if each were as long as the longest
  bits_below : (long : ℕ) (ms : List M) → longest_in r g ms ≤ long → bits_in r g ms ≤ length ms * long
  bits_below long [] le = omega arith
  bits_below long (m ∷ ms) le =
      one_within (r.bits g m) (bits_in r g ms) (length ms) long (bits_below long ms (omega (arith, le))) (omega (arith, le))

-- of numbers that are b at one place and 0 elsewhere
one_value : (n j b : ℕ) → j < n → sum_below n (λ k. cond (j == k) b 0) ≡ b
one_value n j b lt =
    let z = sum_none n (λ k. 0) (λ k l. refl) in
    let o = sum_one n j (λ k. 0) (λ k. cond (j == k) b 0) lt (λ k ne. sym (rw (ne_eqb j k (λ e. ne (sym e))) refl)) in
    let h : ◌≡◌ {A = ℕ} (cond (j == j) b 0) b = rw (eq-eqb j j refl) refl in
    omega (arith, z, o, h)

module _ {S M : Type 0} (r : Rules S M) (kinds : HasKinds r) (g : Shape) where
  kinds_come_to : (ms : List M) → sum_below r.kinds (λ k. bits_of_kind r g k ms) ≡ bits_in r g ms
  kinds_come_to [] = sum_none r.kinds (λ k. 0) (λ k lt. refl)
  kinds_come_to (m ∷ ms) =
      omega (
        arith,
        sum_add r.kinds (λ k. cond (r.kind_of m == k) (r.bits g m) 0) (λ k. bits_of_kind r g k ms),
        one_value r.kinds (r.kind_of m) (r.bits g m) (kinds m),
        kinds_come_to ms,
      )

pub bits_are_by_kind : {S M : Type 0} (r : Rules S M) → BitsAreByKind r
bits_are_by_kind r kinds g es = sym (kinds_come_to r kinds g (all_sent r (network_of g) es))

pub bits_are_within : {S M : Type 0} (r : Rules S M) → BitsAreWithin r
bits_are_within r kinds g es w after =
    let ms = all_sent r (network_of g) es in
    let each = bits_below r g (longest_in r g ms) ms (omega arith) in
    subst (λ (n : ℕ). bits_in r g ms ≤ n * longest_in r g ms) (all_counted r (network_of g) kinds es w after) each

-- what a run sends is measured
abbrev pub IsRunMeasured : {S M : Type 0} → Rules S M → Shape → List Event → Sent → Type 0
IsRunMeasured r g es s = AreMeasured r g (all_sent r (network_of g) es) s

-- where nothing has happened
pub none_measured : {S M : Type 0} (r : Rules S M) (g : Shape) (es : List Event) (s : Sent) → es ≡ [] → s.count ≡ 0 → s.bits ≡ 0 → s.longest ≡ 0 →
    IsRunMeasured r g es s
unfolding all_sent
none_measured r g es s none count bits longest =
    subst (λ (l : List Event). IsRunMeasured r g l s) (sym none)
    (record { count = count; bits = bits; longest = longest; few = omega (arith, count, bits) })

-- what an event's node has sent, with what was sent before
module _ {S M : Type 0} (r : Rules S M) (s : NetState) (e : Event) (y : Net S M) (ss : Outgoing M) (played : Played r s e y ss) (a b : Sent)
    (old : IsRunMeasured r s.graph s.trace a) (more : AreMeasured r s.graph (messages ss) b) where
  pub fits : HasKinds r → (bound : Shape → ℕ) → IsBoundedBy r bound → FitsGraphs bound → (a.count + b.count < 2 ^ 64) × (a.bits + b.bits < 2 ^ 128)
  fits kinds bound bounded fit =
      let sent = all_counted r (network s) kinds s.trace (net_of r s) (before r s e y ss played) in
      let many = count_more r s e y ss played kinds in
      let limit = few r s e y ss played bound bounded fit in
      let here = length-map ss (λ (x : ℕ × M). x.1) in
      let n = old.count in
      let k = more.count in
      let p = old.few in
      let q = more.few in
      let count : a.count + b.count < 2 ^ 64 = omega (arith, sent, many, limit, here, n, k) in
      (count, omega (arith, count, p, q))

  pub grown : (new : Sent) → new.count ≡ a.count + b.count → new.bits ≡ a.bits + b.bits → new.longest ≡ max a.longest b.longest →
      IsRunMeasured r s.graph (s.trace ++ e ∷ []) new
  grown new count bits longest =
      subst (λ (ms : List M). AreMeasured r s.graph ms new) (sym (sent_more r s e y ss played))
      (both_measured r s.graph (all_sent r (network s) s.trace) (messages ss) a b new old more count bits longest)
