-- How many bits a run has, and that they fit in 64 bits.
use Rattle.std.proofs.Common.{◌≡◌, ℕ, ◌-◌, ◌+◌, ◌^◌, ◌<◌, ◌≤◌, Some, [], ◌∷◌, ◌++◌, length, max, refl, sym, ◌∙◌, ap, subst, ⊎_elim, arith}
use Rattle.std.proofs.Math.Nat.{mul-le-mul_left}
use Rattle.std.proofs.Math.Path.{fun_ext}
use Rattle.std.proofs.Math.Pow.{pow_mono}
use Rattle.std.proofs.lemmas.Bool.{cases_lt}
use Rattle.ghs_graph.specs.Bound.{IsBound}
use Rattle.ghs_graph.specs.Graph.{Shape, IsGraph}
use Rattle.ghs_graph.proofs.lemmas.Logs.{bound_is_one}
use Rattle.ghs_node.specs.declared.delta.Delta.{Delta}
use Rattle.ghs_node.specs.Words.{Outgoing}
use Rattle.peer_network.specs.declared.event.Event.{Event}
use Rattle.ghs_protocol.specs.Ledger.{in_all}
use Rattle.ghs_protocol.specs.Net.{Net, happens, opening}
use Rattle.peer_network.specs.Network.{network_of}
use Rattle.ghs_protocol.specs.Run.{IsAfter, IsRun}
use Rattle.ghs_protocol.proofs.lemmas.Laws.{sends_within}
use Rattle.ghs_protocol.proofs.lemmas.Runs.{after_is_net, run_more}
use Rattle.ghs_core.specs.NetState.{IsAnswer, IsLawful, NetState, net_of, network}
use Rattle.ghs_bits.specs.declared.bits.Bits.{Bits}
use Rattle.ghs_bits.specs.declared.widths.Widths.{Widths}
use Rattle.ghs_bits.specs.Bits.{AreBits, AreBitsOf, AreBitsThen, all_sent, bits_in, bits_sent, longest_in, messages_of}
use Rattle.ghs_bits.specs.Laws.{BitsAreByKind, BitsAreWithinBound, LengthsAreShort, keyed_in}
use Rattle.ghs_bits.specs.Length.{greatest_weight, key_width, longest_length, width_of, widths_of}
use Rattle.ghs_bits.proofs.Counting.{bits_append, bits_by_kind, bits_within, by_counts, length_within, longest_append}
use Rattle.ghs_bits.proofs.Width.{widths_are_least}
use Rattle.ghs_bits.proofs.Sending.{leads, sent_by_kind, sent_in_all, sent_more}

pub bits_are_by_kind : BitsAreByKind
bits_are_by_kind g es net after =
    let w = widths_of g in
    let ms = all_sent (network_of g) es in
    bits_by_kind w ms
    ∙ ap (λ (f : ℕ → ℕ). by_counts w.level (key_width w) f (keyed_in ms)) (fun_ext (λ k. sent_by_kind (network_of g) es net after k))

pub bits_are_within_bound : BitsAreWithinBound
bits_are_within_bound g b es graph is net after =
    let w = widths_of g in
    let many = sent_in_all (network_of g) es net after in
    let few : in_all net.sent ≤ b = sends_within g net (record { graph = graph; events = es; run = after }) b is in
    let each = bits_within w (all_sent (network_of g) es) in
    let more = mul-le-mul_left (longest_length w) (let x : length (all_sent (network_of g) es) ≤ b = omega (arith, many, few) in x) in
    omega (arith, each, more)

-- the bound of a graph is far below 2 ^ 32
bound_small : (g : Shape) (b : ℕ) → IsGraph g → IsBound g.nodes (length g.keys) b → b < 2 ^ 32
bound_small g b graph is =
    let k = is.levels in
    let low : k ≤ 20 = ⊎_elim
    (λ (lt : 20 < k). absurd (let x = is.log2.at_most in let n = graph.nodes in omega (arith, pow_mono {i = 21} {j = k} lt, x, n)))
    (λ (le : k ≤ 20). le) (cases_lt 20 k) in
    let some = mul-le-mul_left g.nodes low in
    let n = graph.nodes in
    let e = graph.links in
    let value = is.bound in
    omega (arith, some, n, e, value)

module _ (s : NetState) (graph : IsGraph s.graph) (r : IsRun (network s) s.trace) (e : Event) (lawful : IsLawful s e) (d : Delta)
    (answer : IsAnswer s e d) (b : Bits) (are : AreBits s b) where
  -- what the event sends comes to what has been sent
  grown : bits_sent s.graph (s.trace ++ e ∷ []) ≡ b.sent + bits_in b.widths (messages_of d.sends)
  grown =
      let w = widths_of s.graph in
      let more = ap (bits_in w) (sent_more s e d r lawful answer) in
      let both = bits_append w (all_sent (network s) s.trace) (messages_of d.sends) in
      let sent = are.sent in
      let width = ap (λ (x : Widths). bits_in x (messages_of d.sends)) are.widths in
      omega (arith, more, both, sent, width)

  pub few_bits : longest_length b.widths ≤ 1024 → b.sent + bits_in b.widths (messages_of d.sends) < 2 ^ 64
  few_bits small =
      let g = s.graph in
      let y : (x : Net) × (happens (network s) (net_of s) e ≡ Some x) = leads (network s) (net_of s) e d lawful answer in
      let after : IsAfter (network s) (s.trace ++ e ∷ []) y.0 =
      run_more (network s) s.trace e (opening (network s)) (net_of s) (after_is_net g s.trace r) ∙ y.1 in
      let bound : (c : ℕ) × IsBound g.nodes (length g.keys) c × ((a : ℕ) → IsBound g.nodes (length g.keys) a → a ≡ c) =
      bound_is_one g.nodes (length g.keys) graph.some in
      let within = bits_are_within_bound g bound.0 (s.trace ++ e ∷ []) graph bound.1 y.0 after in
      let low = bound_small g bound.0 graph bound.1 in
      let wide : longest_length (widths_of g) ≤ 1024 =
      subst (λ (w : Widths). longest_length w ≤ 1024) are.widths small in
      let all = mul-le-mul_left bound.0 wide in
      omega (arith, grown, within, low, all)

  -- and the longest is the longest so far, or one of what the event sends
  pub grown_are : (b' : Bits) → b'.widths ≡ b.widths → b'.sent ≡ b.sent + bits_in b.widths (messages_of d.sends) →
      b'.longest ≡ max b.longest (longest_in b.widths (messages_of d.sends)) → AreBitsThen s e b'
  grown_are b' widths sent longest = record {
    widths = widths ∙ are.widths;
    sent = sent ∙ sym grown;
    longest =
        let w = widths_of s.graph in
        let more = ap (longest_in w) (sent_more s e d r lawful answer) in
        let both = longest_append w (all_sent (network s) s.trace) (messages_of d.sends) in
        let here = are.longest in
        let width = ap (λ (x : Widths). longest_in x (messages_of d.sends)) are.widths in
        omega (arith, more, both, here, width, longest);
  }

-- a message that is put back adds nothing
pub put_back_are : (s : NetState) (graph : IsGraph s.graph) (r : IsRun (network s) s.trace) (e : Event) (lawful : IsLawful s e) (d : Delta) →
    IsAnswer s e d → d.sends ≡ [] → (b : Bits) → AreBits s b → AreBitsThen s e b
put_back_are s graph r e lawful d answer none b are =
    let bits : bits_in b.widths (messages_of d.sends) ≡ 0 = ap (λ (ss : Outgoing). bits_in b.widths (messages_of ss)) none in
    let long : longest_in b.widths (messages_of d.sends) ≡ 0 = ap (λ (ss : Outgoing). longest_in b.widths (messages_of ss)) none in
    grown_are s graph r e lawful d answer b are b refl (omega (arith, bits)) (omega (arith, long))

-- no event, no bits
pub none_are : (g : Shape) (b : Bits) → b.widths ≡ widths_of g → b.sent ≡ 0 → b.longest ≡ 0 → AreBitsOf g [] b
unfolding all_sent
none_are g b widths sent longest = record { widths = widths; sent = sent; longest = longest }

-- a number below 2 ^ k has k bits at most
narrow : (n k : ℕ) → 1 ≤ k → n < 2 ^ k → width_of n ≤ k
narrow n k some lt = (widths_are_least n).least k some lt

pub lengths_are_short : LengthsAreShort
unfolding widths_of
lengths_are_short g graph light m =
    let nodes = graph.nodes in
    let number = narrow g.nodes 21 (omega arith) (omega (arith, nodes)) in
    let level = narrow (width_of g.nodes - 1) 5 (omega arith) (omega (arith, number)) in
    let weight = narrow (greatest_weight g.keys) 32 (omega arith) light in
    let within = length_within (widths_of g) m in
    omega (arith, number, level, weight, within)
