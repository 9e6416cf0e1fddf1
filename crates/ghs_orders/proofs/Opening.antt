-- What is kept of a run that begins.
use Rattle.std.proofs.Common.{◌≡◌, ℕ, ◌<◌, Bool, true, false, ◌&&◌, List, [], replicate, length, get_or, refl, sym, ◌∙◌, ap, subst}
use Rattle.std.proofs.lemmas.List.{get_or-replicate, length-replicate}
use Rattle.peer_network.specs.declared.event.Event.{Event}
use Rattle.peer_network.specs.declared.event.Event.TheVariants.{Wake, Take}
use Rattle.ghs_protocol.specs.Net.{Net, opening}
use Rattle.peer_network.specs.Network.{is_port}
use Rattle.ghs_protocol.specs.Run.{net_after}
use Rattle.ghs_protocol.proofs.lemmas.Runs.{net_after_is}
use Rattle.ghs_core.specs.NetState.{network}
use Rattle.peer_index.specs.Places.{all_events, place}
use Rattle.peer_index.proofs.lemmas.Places.{place_within}
use Rattle.ghs_world.specs.WorldState.{WorldState, home, wakers}
use Rattle.ghs_patient.specs.Choices.{AreChoices, ChoicesState}
use Rattle.ghs_patient.specs.Patience.{moves_on}
use Rattle.ghs_orders.specs.Kept.{AreLatest, AreNumbers, NumbersState, rank_if, rank_in}
use Rattle.ghs_orders.specs.Newest.{Newest, newest_of, none_sent}
use Rattle.ghs_orders.proofs.Counting.{none_yet}

and_false : (a b : Bool) → ((a && false) && b) ≡ false
and_false true b = refl
and_false false b = refl

module _ (s : WorldState) (trace : s.net.trace ≡ []) where
  -- no message waits
  opens : home s ≡ opening (network s.net)
  opens = ap (net_after s.net.graph) trace ∙ net_after_is s.net.graph [] (opening (network s.net)) refl

  -- so each event has rank 0
  rank_none : (newest : List ℕ) (e : Event) → rank_in s newest e ≡ 0
  rank_none newest (Wake v) = refl
  rank_none newest (Take v p) =
      let moves : moves_on (wakers s) (network s.net) (home s) (Take v p) ≡ false =
      ap (λ (w : Net). moves_on (wakers s) (network s.net) w (Take v p)) opens ∙ and_false (is_port (network s.net) v p) true in
      ap (λ b. rank_if b (get_or newest (place (network s.net) (Take v p)) 0)) moves

  pub latest_opens : (c : ChoicesState) (k : NumbersState) (n : ℕ) (ranks : List ℕ) → AreChoices s c → AreNumbers (network s.net) none_sent k →
      n ≡ length (all_events (network s.net)) → ranks ≡ replicate n 0 → AreLatest s (record { choices = c; numbers = k; ranks = ranks })
  latest_opens c k n ranks choices numbers many are = record {
    choices = choices;
    numbers =
        subst (λ (x : Newest). AreNumbers (network s.net) x k) (sym (ap (newest_of (network s.net)) trace ∙ none_yet (network s.net))) numbers;
    ranks = record {
      many = ap length are ∙ length-replicate n 0 ∙ many;
      rank = λ e there.
          let within : place (network s.net) e < n = rw many (place_within (network s.net) e there) in
          ap (λ (r : List ℕ). get_or r (place (network s.net) e) 0) are ∙ get_or-replicate n (place (network s.net) e) 0 0 within
          ∙ sym (rank_none k.newest e);
    };
  }
