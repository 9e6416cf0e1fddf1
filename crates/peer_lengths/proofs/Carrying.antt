-- The numbers of a run, one event more.
use Rattle.std.proofs.Common.{◌≡◌, ℕ, suc, ◌<◌, ◌≤◌, ◌-◌, ◌^◌, Bool, false, List, [], ◌∷◌, ◌++◌, length, slice_index, sym, ◌∙◌, ap, ap₂, subst, subst₂, arith, add-one}
use Rattle.std.specs.List.{All}
use Rattle.std.specs.Prelude.{Result, Ok, Err, IfOk, OnOk}
use Rattle.std.specs.declared.alloc.AllocError.{AllocError}
use Rattle.std.specs.Result.{is_err}
use Rattle.std.proofs.lemmas.Bool.{and_parts}
use Rattle.ghs_graph.specs.Graph.{Shape}
use Rattle.peer_network.specs.declared.event.Event.{Event}
use Rattle.peer_network.specs.declared.event.Event.TheVariants.{Wake, Take}
use Rattle.peer_network.specs.Network.{far, far_port, network_of}
use Rattle.peer_network.proofs.lemmas.Events.{at_of}
use Rattle.peer_chains.specs.Chains.{Chains, no_chains, hears, most_below, sent}
use Rattle.peer_chains.specs.Kept.{Kept, Fits, HasPlace, HasPlaceOf, SamePlaces, seen}
use Rattle.peer_chains.proofs.lemmas.Bounding.{IsWithin, hears_within}
use Rattle.peer_chains.proofs.lemmas.Fitting.{far_kept, fits_kept, place_at}
use Rattle.peer_machine.specs.Rules.{Rules, Outgoing, HasKinds}
use Rattle.peer_machine.specs.Net.{Net, event_node, opening}
use Rattle.peer_machine.specs.Ledger.{in_all}
use Rattle.peer_machine.specs.Protocol.{IsBoundedBy, FitsGraphs}
use Rattle.peer_net.specs.NetState.{NetState, network, net_of, is_deferred, IsLawful}
use Rattle.peer_lengths.specs.Chain.{numbers_then, numbers_of, longest_chain}
use Rattle.peer_lengths.specs.Kept.{AreNumbersOf}
use Rattle.peer_lengths.specs.Sends.{bits_sent, longest_sent}
use Rattle.peer_lengths.specs.Lengths.{AreLengths, IsMeterOf, MeterState}
use Rattle.peer_lengths.specs.declared.lengths.Lengths.{Lengths}
use Rattle.peer_lengths.proofs.lemmas.Following.{followed_more}
use Rattle.peer_lengths.proofs.Numbering.{run_within}
use Rattle.peer_lengths.proofs.Playing.{Played, before, count_more, few, high, low, on_ports, sends_are}

-- what holds unless there is an error, where there is none
pub if_carried : {A E P : Type 0} (x : Result A E) → is_err x ≡ false → OnOk x P → P
if_carried (Ok y) h p = p
if_carried (Err e) h p = cc

module _ {S M : Type 0} (r : Rules S M) where
  -- where an event takes a message, its port is kept
  pub place_of : (s : NetState) (k : Kept) (e : Event) → Fits s.graph k → IsLawful r s e → HasPlaceOf k e
  place_of s k (Wake v) f l = tt
  place_of s k (Take v p) f l = place_at s.graph k v p f (at_of (network s) v p (and_parts _ _ l).0)

  -- what a meter tells of its run
  pub if_told : {C : Type 0} {is_scale : Shape → C → Type 0} (g : Shape) (es : List Event) (m : MeterState C) (x : Result Lengths AllocError) →
      IsMeterOf r is_scale g es m →
      IfOk x (λ l. (h : Shape) (fs : List Event) → IsMeterOf r is_scale h fs m → AreLengths r h fs l) →
      IfOk x (λ l. l.chain ≡ longest_chain r (network_of g) es) × IfOk x (λ l. l.bits ≡ bits_sent r g es) ×
      IfOk x (λ l. l.longest ≡ longest_sent r g es)
  if_told g es m (Ok l) is told = let are = told g es is in (are.chain, are.bits, are.longest)
  if_told g es m (Err e) is told = (tt, tt, tt)

  -- no event, no number
  pub begun_are : (g : Shape) (k : Kept) → Fits g k → seen k ≡ no_chains → AreNumbersOf r g [] k
  unfolding numbers_of
  begun_are g k f same = record { fits = f; same = same }

  -- the greatest number of a node is the longest chain
  pub longest_are : (g : Shape) (es : List Event) (k : Kept) (n : ℕ) → AreNumbersOf r g es k → n ≡ most_below (length k.numbers) (seen k).node →
      n ≡ longest_chain r (network_of g) es
  longest_are g es k n are value =
      let count : length k.numbers ≡ suc g.nodes = are.fits.numbers ∙ add-one g.nodes in
      value ∙ ap₂ (λ (m : ℕ) (c : Chains). most_below m c.node) count are.same

  module _ (s : NetState) (e : Event) (y : Net S M) (ss : Outgoing M) (played : Played r s e y ss) (k k1 : Kept)
      (are : AreNumbersOf r s.graph s.trace k) (places : SamePlaces k k1)
      (heard : seen k1 ≡ hears e (r.is_asleep ((net_of r s).node (event_node e))) (is_deferred r (net_of r s) e) (seen k)) where
    abbrev asleep : Bool
    asleep = r.is_asleep ((net_of r s).node (event_node e))

    abbrev deferred : Bool
    deferred = is_deferred r (net_of r s) e

    fits : Fits s.graph k1
    fits = fits_kept s.graph k k1 places are.fits

    -- the sender is kept
    pub node_kept : event_node e < length k1.numbers
    node_kept = let n = fits.numbers in let v = high r s e y ss played in omega (arith, n, v)

    -- and so are the ports to which it sends
    pub out_to : All (λ (x : ℕ × M). HasPlace k1 (far (network s) (event_node e) x.0) (far_port (network s) (event_node e) x.0)) ss
    out_to = far_kept s.graph k1 (event_node e) ss played.graph fits (low r s e y ss played) (high r s e y ss played) (on_ports r s e y ss played)

    -- if it sends, its number leaves room for one more
    pub small : HasKinds r → (bound : Shape → ℕ) → IsBoundedBy r bound → FitsGraphs bound →
        0 < length ss → slice_index k1.numbers (event_node e) < 2 ^ 64 - 1
    unfolding seen
    small kinds bound bounded fit some =
        let n = in_all r (net_of r s).sent in
        let within : IsWithin n n (seen k1) =
        subst (λ (c : Chains). IsWithin n n c) (sym (heard ∙ ap (hears e asleep deferred) are.same))
        (hears_within e n asleep deferred _ (run_within r (network s) kinds s.trace (net_of r s) (before r s e y ss played))) in
        let at : slice_index k1.numbers (event_node e) ≤ n = within.node (event_node e) in
        let many = count_more r s e y ss played kinds in
        let limit = few r s e y ss played bound bounded fit in
        omega (arith, at, many, limit, some)

    -- its node has heard and sent
    carried : (k2 : Kept) → SamePlaces k1 k2 → seen k2 ≡ sent (network s) (event_node e) ss (seen k1) →
        AreNumbersOf r s.graph (s.trace ++ e ∷ []) k2
    unfolding numbers_of
    carried k2 kept out = record {
      fits = fits_kept s.graph k1 k2 kept fits;
      same =
          out ∙ ap₂ (λ (l : Outgoing M) (c : Chains). sent (network s) (event_node e) l c) (sends_are r s e y ss played)
          (heard ∙ ap (hears e asleep deferred) are.same)
          ∙ sym (followed_more r (numbers_then r (network s)) (network s) s.trace e (opening r (network s)) (net_of r s) y no_chains
          (before r s e y ss played) played.event);
    }

    -- and so in the net behind the event
    pub carried_to : (t : NetState) (k2 : Kept) → t.graph ≡ s.graph → t.trace ≡ s.trace ++ e ∷ [] → SamePlaces k1 k2 →
        seen k2 ≡ sent (network t) (event_node e) ss (seen k1) → AreNumbersOf r t.graph t.trace k2
    carried_to t k2 graph trace kept out =
        subst₂ (λ (h : Shape) (es : List Event). AreNumbersOf r h es k2) (sym graph) (sym trace)
        (carried k2 kept
        (subst (λ (h : Shape). seen k2 ≡ sent (network_of h) (event_node e) ss (seen k1)) graph out))
