-- What is published of a world, and how a run goes on.
use Rattle.std.proofs.Common.{◌≡◌, ℕ, Bool, true, false, true≢false, List, [], ◌∷◌, ◌++◌, length, refl, sym, ap, ◌∙◌, subst, arith, length-append, append-nil, append_assoc, Result, Ok, Err, OnOk, OnErr, None}
use mathlib.Core.Bool.{beq}
use Rattle.ghs_graph.specs.Graph.{Shape, IsGraph}
use Rattle.peer_network.specs.declared.event.Event.{Event}
use Rattle.peer_network.specs.Network.{network_of}
use Rattle.ghs_protocol.specs.Run.{IsRun, IsAfter, net_after}
use Rattle.ghs_protocol.specs.Marks.{HasEnded}
use Rattle.ghs_protocol.specs.Laws.{IsLater}
use Rattle.ghs_protocol.proofs.lemmas.Laws.{halts_stay}
use Rattle.ghs_protocol.proofs.lemmas.Runs.{after_is_net}
use Rattle.ghs_core.specs.NetState.{NetState, net_of, network, IsLeastHalted}
use Rattle.ghs_shared.specs.declared.progress.Progress.{Progress}
use Rattle.ghs_shared.specs.Progress.{pair, last_of, NoLess, StartsWith}
use Rattle.ghs_shared.specs.Board.{Published}
use Rattle.ghs_shared.proofs.lemmas.Pairs.{last_or_push, starts_refl}
use Rattle.ghs_world.specs.WorldState.{WorldState, home}
use Rattle.ghs_world.specs.Steps.{Commits, Makes, IsSameWorld}
use Rattle.ghs_pool.specs.Shop.{ShopState, IsPairOf, IsTold, Publishes}
use Rattle.ghs_pool.specs.Follows.{Follows, GoesOn}
use Rattle.ghs_protocol.proofs.lemmas.Bools.{same_bool}

-- a net has one pair
pub one_pair : (n : NetState) (p q : Progress) → IsPairOf n p → IsPairOf n q → p ≡ q
one_pair n p q a b =
    let c : p.commits ≡ q.commits = a.commits ∙ sym b.commits in
    let h : p.halted ≡ q.halted = same_bool p.halted q.halted (λ e. b.ended.1 (a.ended.0 e)) (λ e. a.ended.1 (b.ended.0 e)) in
    λ i. record { commits = c i; halted = h i }

same_beq : (a b : Bool) → beq a b ≡ true → a ≡ b
same_beq true true e = refl
same_beq true false e = sym e
same_beq false true e = e
same_beq false false e = refl

apart_beq : (a b : Bool) → beq a b ≡ false → a ≡ b → ⊥
apart_beq true true e s = true≢false e
apart_beq true false e s = true≢false s
apart_beq false true e s = true≢false (sym s)
apart_beq false false e s = true≢false e

-- the same parts, so the net's pair
pub told_by : (n : NetState) (told last p : Progress) → last ≡ told → last.commits ≡ p.commits → beq last.halted p.halted ≡ true → IsPairOf n p →
    IsPairOf n told
told_by n told last p e c h a =
    let b = same_beq last.halted p.halted h in
    let same : last ≡ p = λ i. record { commits = c i; halted = b i } in
    subst (IsPairOf n) (sym same ∙ e) a

-- another number of commits, or another answer to whether the run has ended, so not the net's pair
pub not_commits : (n : NetState) (told last p : Progress) → last ≡ told → (last.commits ≡ p.commits → ⊥) → IsPairOf n p → IsPairOf n told → ⊥
not_commits n told last p e other a b = other (ap (λ (x : Progress). x.commits) (e ∙ one_pair n told p b a))

pub not_halted : (n : NetState) (told last p : Progress) → last ≡ told → beq last.halted p.halted ≡ false → IsPairOf n p → IsPairOf n told → ⊥
not_halted n told last p e other a b = apart_beq last.halted p.halted other (ap (λ (x : Progress). x.halted) (e ∙ one_pair n told p b a))

-- whether the run has ended is told by graph and trace
ended_as : (g h : Shape) (es fs : List Event) → g ≡ h → es ≡ fs → HasEnded g (net_after g es) → HasEnded h (net_after h fs)
ended_as g h es fs e f x = subst (λ (y : Shape × List Event). HasEnded y.0 (net_after y.0 y.1)) (λ i. (e i, f i)) x

-- the same graph and trace have the same pair
pub pair_as : (n m : NetState) (p : Progress) → m.graph ≡ n.graph → m.trace ≡ n.trace → IsPairOf n p → IsPairOf m p
pair_as n m p g t h = record {
  commits = h.commits ∙ ap (λ (l : List Event). length l) (sym t);
  ended = (
    (λ e. ended_as n.graph m.graph n.trace m.trace (sym g) (sym t) (h.ended.0 e)),
    (λ e. h.ended.1 (ended_as m.graph n.graph m.trace n.trace g t e)),
  );
}

-- a call that leaves the home view leaves what was told
pub told_still : {A E : Type 0} (r : Result A E) (old new ok : WorldState) (told : Published) → ok.net ≡ old.net → OnOk r (new ≡ ok) →
    OnErr r (new ≡ old) → IsTold old told → IsTold new told
told_still (Ok a) old new ok told same o e h =
    let n : new.net ≡ old.net = ap (λ (s : WorldState). s.net) o ∙ same in
    pair_as old.net new.net (last_of told.list) (ap (λ (m : NetState). m.graph) n) (ap (λ (m : NetState). m.trace) n) h
told_still (Err f) old new ok told same o e h = subst (λ (s : WorldState). IsTold s told) (sym e) h

-- so does one that is refused
pub told_again : (old new : WorldState) (told : Published) → IsSameWorld old new → IsTold old told → IsTold new told
told_again old new told s h = pair_as old.net new.net (last_of told.list) s.net.graph s.net.trace h

-- after an event more neither part of the pair is less
pub rises : (old new : NetState) (e : Event) (p q : Progress) → new.graph ≡ old.graph → new.trace ≡ old.trace ++ e ∷ [] → IsGraph old.graph →
    IsRun (network old) old.trace → IsRun (network new) new.trace → IsPairOf old p → IsPairOf new q → NoLess p q
rises old new e p q same longer graph was now a b =
    let g = old.graph in
    let w = net_of old in
    let w' = net_of new in
    let after : IsAfter (network_of g) (old.trace ++ e ∷ []) w' =
    subst (λ (y : Shape × List Event). IsAfter (network_of y.0) y.1 w') (λ i. (same i, longer i)) (after_is_net new.graph new.trace now) in
    let later : IsLater g w w' = record {
      graph = graph;
      events = old.trace;
      further = e ∷ [];
      run = after_is_net g old.trace was;
      later = after;
    } in
    let goes : HasEnded g w → HasEnded g w' = λ h v lo hi. let o = h v lo hi in (o.0, o.1, o.2, o.3, halts_stay g w w' later o.0 o.4) in
    let long : length new.trace ≡ length (old.trace ++ e ∷ []) = ap (λ (l : List Event). length l) longer in record {
      commits = omega (arith, a.commits, b.commits, long, length-append old.trace (e ∷ []));
      halted = λ h. b.ended.1 (subst (λ (x : Shape). HasEnded x w') (sym same) (goes (a.ended.0 h)));
    }

-- what is published last is the pair
pub told_next : (n : NetState) (p : Progress) (list before : List Progress) → list ≡ before ++ p ∷ [] → IsPairOf n p → IsPairOf n (last_of list)
told_next n p list before e h = subst (IsPairOf n) (sym (ap last_of e ∙ last_or_push (pair 0 false) before p)) h

-- how a run goes on
pub follows_same : (s t : WorldState) → t.net.graph ≡ s.net.graph → t.net.trace ≡ s.net.trace → t.wake ≡ s.wake → t.turns ≡ s.turns → Follows t s
follows_same s t g e w n = record { graph = g; wake = w; turns = n; further = []; trace = e ∙ sym (append-nil s.net.trace) }

pub follows_on : (a b c : WorldState) → Follows b a → Follows c b → Follows c a
follows_on a b c p q = record {
  graph = q.graph ∙ p.graph;
  wake = q.wake ∙ p.wake;
  turns = q.turns ∙ p.turns;
  further = p.further ++ q.further;
  trace = q.trace ∙ ap (λ (l : List Event). l ++ q.further) p.trace ∙ append_assoc a.net.trace p.further q.further;
}

pub goes_refl : (s : ShopState) → GoesOn s s
goes_refl s = record { world = follows_same s.world s.world refl refl refl refl; table = refl; list = starts_refl s.told.list }

pub starts_on : (a b c : List Progress) → StartsWith b a → StartsWith c b → StartsWith c a
starts_on a b c p q = (p.0 ++ q.0, q.1 ∙ ap (λ (l : List Progress). l ++ q.0) p.1 ∙ append_assoc a p.0 q.0)

pub goes_on : (a b c : ShopState) → GoesOn b a → GoesOn c b → GoesOn c a
goes_on a b c p q = record {
  world = follows_on a.world b.world c.world p.world q.world;
  table = q.table ∙ p.table;
  list = starts_on a.told.list b.told.list c.told.list p.list q.list;
}

-- a commit goes on
pub goes_commit : (old new : ShopState) (n : ℕ) (e : Event) → Commits old.world n e new.world → Publishes old.told new.told new.world → GoesOn new old
goes_commit old new n e c p = record {
  world = record { graph = c.graph; wake = c.wake; turns = c.turns; further = e ∷ []; trace = c.trace };
  table = p.table;
  list = (p.pair ∷ [], p.list);
}

-- what leaves all goes on too
pub goes_still : (old new : ShopState) → IsSameWorld old.world new.world → new.told ≡ old.told → GoesOn new old
goes_still old new s t = record {
  world = follows_same old.world new.world s.net.graph s.net.trace s.wake s.turns;
  table = ap (λ (x : Published). x.table) t;
  list = subst (λ (x : Published). StartsWith x.list old.told.list) (sym t) (starts_refl old.told.list);
}

-- and so does a refused one
pub goes_after : {A E : Type 0} (r : Result A E) (old new : ShopState) (n : ℕ) (e : Event) → OnOk r (Commits old.world n e new.world) →
    OnOk r (Publishes old.told new.told new.world) → OnErr r (IsSameWorld old.world new.world) → OnErr r (new.told ≡ old.told) → GoesOn new old
goes_after (Ok a) old new n e c p s t = goes_commit old new n e c p
goes_after (Err f) old new n e c p s t = goes_still old new s t

-- so does an event that is made at once
pub goes_made : (old new : ShopState) (e : Event) → Makes old.world e new.world → Publishes old.told new.told new.world → GoesOn new old
goes_made old new e m p = record {
  world = record { graph = m.graph; wake = m.wake; turns = m.turns; further = e ∷ []; trace = m.trace };
  table = p.table;
  list = (p.pair ∷ [], p.list);
}

-- of a run that has ended a node has halted
pub some_halted : (s : WorldState) → IsGraph s.net.graph → HasEnded s.net.graph (home s) → IsLeastHalted (network s.net) (home s) None → ⊥
some_halted s g ended none = let o = ended 1 (omega arith) g.some in none o.0 o.1 o.2 o.4
