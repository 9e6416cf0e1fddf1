-- What is kept of a run that begins.
use Rattle.std.proofs.Common.{◌≡◌, ℕ, ◌<◌, ◌≤◌, ◌^◌, List, [], replicate, length, get_or, refl, sym, ◌∙◌, ap, subst}
use Rattle.std.proofs.lemmas.List.{get_or-replicate, length-replicate}
use Rattle.peer_network.specs.declared.event.Event.{Event}
use Rattle.peer_network.specs.declared.event.Event.TheVariants.{Wake, Take}
use Rattle.peer_index.specs.Index.{AreBases}
use Rattle.peer_index.specs.Places.{all_events, place}
use Rattle.peer_index.proofs.lemmas.Places.{place_within}
use Rattle.peer_machine.specs.Rules.{Rules}
use Rattle.peer_machine.specs.Net.{Net, opening}
use Rattle.peer_machine.specs.Run.{net_after}
use Rattle.peer_machine.proofs.lemmas.Runs.{net_after_is}
use Rattle.peer_net.specs.NetState.{NetState, net_of, network}
use Rattle.peer_picking.specs.LifoKept.{AreLatest, AreRanks, rank_in}
use Rattle.peer_picking.specs.Newest.{Newest, newest_of, none_sent}
use Rattle.peer_picking.proofs.Counting.{none_yet}

module _ {S M : Type 0} (r : Rules S M) (s : NetState) (trace : s.trace ≡ []) where
  -- no message waits
  opens : net_of r s ≡ opening r (network s)
  opens = ap (λ (es : List Event). net_after r s.graph es) trace ∙ net_after_is r s.graph [] (opening r (network s)) refl

  rank_none : (e : Event) → rank_in (opening r (network s)) none_sent e ≡ 0
  rank_none (Wake v) = refl
  rank_none (Take v p) = refl

  none_in : newest_of r (network s) s.trace ≡ none_sent
  none_in = ap (λ (es : List Event). newest_of r (network s) es) trace ∙ none_yet r (network s)

  -- so each event has rank 0
  pub latest_opens : (bases : List ℕ) (n : ℕ) (ranks : List ℕ) → AreBases (network s) s.graph.nodes bases → length (all_events (network s)) ≤ 2 ^ 25 →
      n ≡ length (all_events (network s)) → ranks ≡ replicate n 0 → AreLatest r s (record { bases = bases; count = 0; ranks = ranks })
  latest_opens bases n ranks laid few many are =
      subst (λ (w : Net S M). AreRanks (network s) w (newest_of r (network s) s.trace) (record { bases = bases; count = 0; ranks = ranks }))
      (sym opens)
      (subst (λ (m : Newest). AreRanks (network s) (opening r (network s)) m (record { bases = bases; count = 0; ranks = ranks })) (sym none_in)
      (record {
        is_for = record { bases = laid; many = ap length are ∙ length-replicate n 0 ∙ many; few = few };
        count = refl;
        rank = λ e there.
            let within : place (network s) e < n = rw many (place_within (network s) e there) in
            ap (λ (l : List ℕ). get_or l (place (network s) e) 0) are ∙ get_or-replicate n (place (network s) e) 0 0 within ∙ sym (rank_none e);
      }))
