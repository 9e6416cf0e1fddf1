-- Bits of lists of messages.
use Rattle.std.proofs.Common.{◌≡◌, ℕ, suc, ◌+◌, ◌*◌, ◌≤◌, Some, None, List, [], ◌∷◌, ◌++◌, length, max, arith, ◌<◌, ◌==◌, if◌then◌else◌, ap, drop, sym, take, ◌∙◌}
use Rattle.std.specs.List.{slice_index_or}
use Rattle.std.proofs.lemmas.List.{map-append, take-append-drop, take_more}
use Rattle.ghs_node.specs.Words.{Outgoing}
use Rattle.ghs_node.specs.declared.message.Message.{Message}
use Rattle.ghs_node.specs.declared.message.Message.TheVariants.{Connect, Initiate, Test, Accept, Reject, Report, ChangeRoot}
use Rattle.ghs_protocol.specs.Ledger.{of_kind}
use Rattle.ghs_bits.specs.declared.widths.Widths.{Widths}
use Rattle.ghs_bits.specs.Bits.{bits_in, longest_in, messages_of}
use Rattle.ghs_bits.specs.Laws.{keyed_in}
use Rattle.ghs_bits.specs.Length.{key_width, length_of, longest_length}

pub bits_append : (w : Widths) (a b : List Message) → bits_in w (a ++ b) ≡ bits_in w a + bits_in w b
bits_append w [] b = omega arith
bits_append w (m ∷ a) b = omega (arith, bits_append w a b)

pub longest_append : (w : Widths) (a b : List Message) → longest_in w (a ++ b) ≡ max (longest_in w a) (longest_in w b)
longest_append w [] b = omega arith
longest_append w (m ∷ a) b = omega (arith, longest_append w a b)

pub length_within : (w : Widths) (m : Message) → length_of w m ≤ longest_length w
length_within w (Connect l) = omega arith
length_within w (Initiate l f s) = omega arith
length_within w (Test l f) = omega arith
length_within w Accept = omega arith
length_within w Reject = omega arith
length_within w (Report None) = omega arith
length_within w (Report (Some k)) = omega arith
length_within w ChangeRoot = omega arith

-- one more, of at most k
within_more : (a s n k : ℕ) → a ≤ k → s ≤ n * k → a + s ≤ suc n * k
within_more a s n k here rest = omega (arith, here, rest)

pub bits_within : (w : Widths) (ms : List Message) → bits_in w ms ≤ length ms * longest_length w
bits_within w [] = omega arith
bits_within w (m ∷ ms) = within_more (length_of w m) (bits_in w ms) (length ms) (longest_length w) (length_within w m) (bits_within w ms)

-- the bits by kind: l is a level's width and k a key's
abbrev pub by_counts : ℕ → ℕ → (ℕ → ℕ) → ℕ → ℕ
by_counts l k f keyed =
    f 0 * (3 + l) + f 1 * (3 + l + k + 1) + f 2 * (3 + l + k) + f 3 * 3 + f 4 * 3 + f 5 * (3 + 1) + f 6 * 3 + keyed * k

-- one more of the kind at place i
abbrev one_more : (ℕ → ℕ) → ℕ → ℕ → ℕ
one_more f i j = (if i == j then 1 else 0) + f j

module _ (l k : ℕ) (f : ℕ → ℕ) (keyed s : ℕ) (is : s ≡ by_counts l k f keyed) where
  connect_more : 3 + l + s ≡ by_counts l k (one_more f 0) keyed
  connect_more = omega (arith, is)

  initiate_more : 3 + l + k + 1 + s ≡ by_counts l k (one_more f 1) keyed
  initiate_more = omega (arith, is)

  test_more : 3 + l + k + s ≡ by_counts l k (one_more f 2) keyed
  test_more = omega (arith, is)

  accept_more : 3 + s ≡ by_counts l k (one_more f 3) keyed
  accept_more = omega (arith, is)

  reject_more : 3 + s ≡ by_counts l k (one_more f 4) keyed
  reject_more = omega (arith, is)

  bare_more : 3 + 1 + s ≡ by_counts l k (one_more f 5) keyed
  bare_more = omega (arith, is)

  keyed_more : 3 + 1 + k + s ≡ by_counts l k (one_more f 5) (suc keyed)
  keyed_more = omega (arith, is)

  root_more : 3 + s ≡ by_counts l k (one_more f 6) keyed
  root_more = omega (arith, is)

pub bits_by_kind : (w : Widths) (ms : List Message) → bits_in w ms ≡ by_counts w.level (key_width w) (λ k. of_kind k ms) (keyed_in ms)
bits_by_kind w [] = omega arith
bits_by_kind w (Connect l ∷ ms) = connect_more w.level (key_width w) (λ k. of_kind k ms) (keyed_in ms) (bits_in w ms) (bits_by_kind w ms)
bits_by_kind w (Initiate l f s ∷ ms) = initiate_more w.level (key_width w) (λ k. of_kind k ms) (keyed_in ms) (bits_in w ms) (bits_by_kind w ms)
bits_by_kind w (Test l f ∷ ms) = test_more w.level (key_width w) (λ k. of_kind k ms) (keyed_in ms) (bits_in w ms) (bits_by_kind w ms)
bits_by_kind w (Accept ∷ ms) = accept_more w.level (key_width w) (λ k. of_kind k ms) (keyed_in ms) (bits_in w ms) (bits_by_kind w ms)
bits_by_kind w (Reject ∷ ms) = reject_more w.level (key_width w) (λ k. of_kind k ms) (keyed_in ms) (bits_in w ms) (bits_by_kind w ms)
bits_by_kind w (Report None ∷ ms) = bare_more w.level (key_width w) (λ k. of_kind k ms) (keyed_in ms) (bits_in w ms) (bits_by_kind w ms)
bits_by_kind w (Report (Some k) ∷ ms) = keyed_more w.level (key_width w) (λ k. of_kind k ms) (keyed_in ms) (bits_in w ms) (bits_by_kind w ms)
bits_by_kind w (ChangeRoot ∷ ms) = root_more w.level (key_width w) (λ k. of_kind k ms) (keyed_in ms) (bits_in w ms) (bits_by_kind w ms)

-- one more of what goes out
module _ (w : Widths) (ss : Outgoing) (i : ℕ) (x : ℕ × Message) (lt : i < length ss) (item : x ≡ slice_index_or ss i x) where
  next : messages_of (take (i + 1) ss) ≡ messages_of (take i ss) ++ x.1 ∷ []
  next =
      ap messages_of (take_more ss i x lt) ∙ map-append (λ (s : ℕ × Message). s.1) (take i ss) (slice_index_or ss i x ∷ [])
      ∙ ap (λ (s : ℕ × Message). messages_of (take i ss) ++ s.1 ∷ []) (sym item)

  pub bits_next : bits_in w (messages_of (take (i + 1) ss)) ≡ bits_in w (messages_of (take i ss)) + length_of w x.1
  bits_next =
      let e = ap (bits_in w) next in
      let f = bits_append w (messages_of (take i ss)) (x.1 ∷ []) in
      omega (arith, e, f)

  pub longest_next : longest_in w (messages_of (take (i + 1) ss)) ≡ max (longest_in w (messages_of (take i ss))) (length_of w x.1)
  longest_next =
      let e = ap (longest_in w) next in
      let f = longest_append w (messages_of (take i ss)) (x.1 ∷ []) in
      omega (arith, e, f)

  pub bits_so_far : bits_in w (messages_of (take i ss)) + length_of w x.1 ≤ bits_in w (messages_of ss)
  bits_so_far =
      let all = ap (λ (l : Outgoing). bits_in w (messages_of l)) (take-append-drop (i + 1) ss) in
      let parts = ap (bits_in w) (map-append (λ (s : ℕ × Message). s.1) (take (i + 1) ss) (drop (i + 1) ss)) in
      let both = bits_append w (messages_of (take (i + 1) ss)) (messages_of (drop (i + 1) ss)) in
      let one = bits_next in
      omega (arith, all, parts, both, one)
