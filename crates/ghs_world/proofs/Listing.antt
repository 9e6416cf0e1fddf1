-- Events listed in order.
use Rattle.std.proofs.Common.{◌≡◌, ℕ, zero, suc, Some, None, ◌+◌, ◌-◌, ◌≤◌, Bool, true, false, ◌||◌, ◌&&◌, not, List, [], ◌∷◌, ◌++◌, length, refl, sym, ◌∙◌, ap, ap₂, arith}
use Rattle.std.specs.List.{list_any, find, filter}
use Rattle.std.proofs.lemmas.List.Folds.{list_any-append, find-append}
use Rattle.std.specs.Option.{option_or}
use Rattle.std.specs.Prelude.{if◌then◌else◌}
use Rattle.peer_network.specs.declared.event.Event.{Event}
use Rattle.peer_network.specs.declared.event.Event.TheVariants.{Wake, Take}
use Rattle.peer_network.specs.Network.{Network, is_node}
use Rattle.ghs_protocol.specs.Net.{Net, is_lawful_under}
use Rattle.ghs_core.specs.NetState.{network, event_node}
use Rattle.ghs_world.specs.Outs.{is_out}
use Rattle.ghs_world.specs.WorldState.{WorldState, home, wakers, may_happen}
use Rattle.ghs_world.specs.Ready.{next_of, is_ready, ready_events, has_ready}
use Rattle.peer_index.specs.Places.{events_at, events_to, all_events, takes}

or_none : (b : Bool) → (b || false) ≡ b
or_none true = refl
or_none false = refl

and_none : (b : Bool) → (b && false) ≡ false
and_none true = refl
and_none false = refl

module _ (p : Event → Bool) (v : ℕ) where
  -- one port more
  pub any_next : (d : ℕ) → list_any p (events_at v (suc d)) ≡ (list_any p (events_at v d) || p (Take v d))
  any_next d = list_any-append p (events_at v d) (Take v d ∷ []) ∙ ap (λ b. list_any p (events_at v d) || b) (or_none (p (Take v d)))

-- at what is no node nothing may happen
pub none_at_none : (may : ℕ → Bool) (g : Network) (w : Net) (v d : ℕ) → is_node g v ≡ false →
    list_any (is_lawful_under may g w) (events_at v d) ≡ false
none_at_none may g w v zero e = rw (e, and_none (may v))
none_at_none may g w v (suc d) e = any_next (is_lawful_under may g w) v d ∙ rw (none_at_none may g w v d e, e)

pub none_ready : (s : WorldState) (v : ℕ) → is_node (network s.net) v ≡ false → has_ready s v ≡ false
none_ready s v e = ap (λ b. not (is_out s.outs v) && b) (none_at_none (wakers s) (network s.net) (home s) v (length ((network s.net).ports v)) e)
    ∙ and_none (not (is_out s.outs v))

-- tests that agree at node v's events
pub any_same : (p q : Event → Bool) (v d : ℕ) → ((f : Event) → event_node f ≡ v → p f ≡ q f) → list_any p (events_at v d) ≡ list_any q (events_at v d)
any_same p q v zero same = ap (λ b. b || false) (same (Wake v) refl)
any_same p q v (suc d) same = any_next p v d ∙ ap₂ (λ a b. a || b) (any_same p q v d same) (same (Take v d) refl) ∙ sym (any_next q v d)

-- the events of one node more
pub listed_node : (p : Event → Bool) (g : Network) (v d : ℕ) (es : List Event) → 1 ≤ v → d ≡ length (g.ports v) →
    es ≡ filter p (events_to g (v - 1) ++ events_at v d) → es ≡ filter p (events_to g (v + 1 - 1))
listed_node p g zero d es low e h = absurd (omega arith)
listed_node p g (suc n) d es low e h =
    let up : suc n + 1 - 1 ≡ suc n = omega arith in
    let down : suc n - 1 ≡ n = omega arith in
    rw up ((rw down at h) ∙ ap (λ k. filter p (events_to g n ++ events_at (suc n) k)) e)

-- the first event that passes
module _ (p : Event → Bool) (v low : ℕ) where
  pub find_next : (n : ℕ) →
      find p (takes v low (suc n)) ≡ option_or (find p (takes v low n)) (if p (Take v (low + n)) then Some (Take v (low + n)) else None)
  find_next n = find-append p (takes v low n) (Take v (low + n) ∷ [])

-- tests that agree on node v's Takes
pub find_same : (p q : Event → Bool) (v low n : ℕ) → ((f : Event) → event_node f ≡ v → p f ≡ q f) → find p (takes v low n) ≡ find q (takes v low n)
find_same p q v low zero same = refl
find_same p q v low (suc n) same =
    find_next p v low n ∙ ap₂ (λ o (b : Bool). option_or o (if b then Some (Take v (low + n)) else None)) (find_same p q v low n same)
    (same (Take v (low + n)) refl) ∙ sym (find_next q v low n)

none_find : (v low n : ℕ) → find (λ (e : Event). false) (takes v low n) ≡ None
none_find v low zero = refl
none_find v low (suc n) = find_next (λ (e : Event). false) v low n ∙ rw (none_find v low n)

-- a node that is out has no next event
pub none_next : (s : WorldState) (v from : ℕ) → is_out s.outs v ≡ true → next_of s v from ≡ None
unfolding next_of
none_next s v from e =
    let d = length ((network s.net).ports v) in
    let gone : (f : Event) → event_node f ≡ v → is_ready s f ≡ false = (λ f here. rw (here, e)) in
    rw (gone (Wake v) refl)
    (find-append (is_ready s) (takes v from (length ((network s.net).ports v) - from)) (takes v 0 (length ((network s.net).ports v)))
    ∙ ap₂ option_or (find_same (is_ready s) (λ _. false) v from (d - from) gone ∙ none_find v from (d - from))
    (find_same (is_ready s) (λ _. false) v 0 d gone ∙ none_find v 0 d))

-- at home, it is the wake, or the first Take
at_home : (s : WorldState) (v : ℕ) → is_out s.outs v ≡ false → (f : Event) → event_node f ≡ v → is_ready s f ≡ may_happen s f
at_home s v e f here = rw (here, e)

pub wake_next : (s : WorldState) (v from : ℕ) → is_out s.outs v ≡ false → may_happen s (Wake v) ≡ true → next_of s v from ≡ Some (Wake v)
unfolding next_of
wake_next s v from e h = rw (at_home s v e (Wake v) refl ∙ h)

pub take_next : (s : WorldState) (v from : ℕ) → is_out s.outs v ≡ false → may_happen s (Wake v) ≡ false →
    next_of s v from ≡ option_or (find (may_happen s) (takes v from (length ((network s.net).ports v) - from)))
    (find (may_happen s) (takes v 0 (length ((network s.net).ports v))))
unfolding next_of
take_next s v from e h =
    rw (at_home s v e (Wake v) refl ∙ h)
    (find-append (is_ready s) (takes v from (length ((network s.net).ports v) - from)) (takes v 0 (length ((network s.net).ports v)))
    ∙ ap₂ option_or (find_same (is_ready s) (may_happen s) v from (length ((network s.net).ports v) - from) (at_home s v e))
    (find_same (is_ready s) (may_happen s) v 0 (length ((network s.net).ports v)) (at_home s v e)))

-- where nothing is out, what may happen is ready
pub ready_all : (s : WorldState) → s.outs ≡ [] → ready_events s ≡ filter (may_happen s) (all_events (network s.net))
ready_all s e = rw e refl
