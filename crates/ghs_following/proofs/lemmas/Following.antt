-- The chains of one event more.
use Rattle.std.proofs.Common.{◌≡◌, ◌-◌, ◌^◌, slice_index, ℕ, Bool, ◌<◌, ◌≤◌, Option, Some, None, List, [], ◌∷◌, ◌++◌, length, sym, ◌∙◌, ap, subst, arith}
use Rattle.std.proofs.lemmas.Bool.{and_parts}
use Rattle.std.proofs.lemmas.Option.{same_Some}
use Rattle.ghs_graph.specs.Graph.{Shape}
use Rattle.ghs_node.specs.declared.delta.Delta.{Delta}
use Rattle.peer_network.specs.declared.event.Event.{Event}
use Rattle.peer_network.specs.declared.event.Event.TheVariants.{Wake, Take}
use Rattle.ghs_protocol.specs.Net.{Net, happens, opening}
use Rattle.peer_network.specs.Network.{Network}
use Rattle.ghs_protocol.specs.Run.{IsRun, and_then, run}
use Rattle.peer_network.proofs.lemmas.Events.{at_of}
use Rattle.ghs_protocol.proofs.lemmas.Runs.{after_is_net}
use Rattle.ghs_core.specs.NetState.{IsAnswer, IsLawful, NetState, net_of, network}
use Rattle.peer_chains.specs.Chains.{Chains, hears, no_chains}
use Rattle.peer_chains.specs.Kept.{Fits, HasPlaceOf, Kept, seen}
use Rattle.peer_chains.proofs.lemmas.Bounding.{IsWithin, hears_within}
use Rattle.peer_chains.proofs.lemmas.Fitting.{place_at}
use Rattle.ghs_following.specs.Chains.{answered, chains_after, chains_of, chains_then, if_then, reacted}
use Rattle.ghs_following.specs.Kept.{AreChains, AreChainsOf}
use Rattle.ghs_following.proofs.lemmas.Bounding.{run_within}

-- an event that happens has its part in the chains
pub one_after : (g : Network) (w y : Net) (e : Event) (c : Chains) → happens g w e ≡ Some y → chains_after g (e ∷ []) w c ≡ chains_then g w e c
one_after g w y e c h = ap (λ (o : Option Net). if_then o (λ x. chains_then g w e c) c) h

-- one event more, at the end
pub chains_more : (g : Network) (es : List Event) (e : Event) (w x y : Net) (c : Chains) → run g es w ≡ Some x → happens g x e ≡ Some y →
    chains_after g (es ++ e ∷ []) w c ≡ chains_then g x e (chains_after g es w c)
chains_more g [] e w x y c h k =
    let same : w ≡ x = same_Some w x h in
    let here : happens g w e ≡ Some y = ap (λ (z : Net). happens g z e) same ∙ k in
    one_after g w y e c here ∙ ap (λ (z : Net). chains_then g z e c) same
chains_more g (f ∷ es) e w x y c h k = go (λ z l. chains_more g es e z x y (chains_then g w f c) l k) (happens g w f) h
  where
    go :
        ((z : Net) → run g es z ≡ Some x →
        chains_after g (es ++ e ∷ []) z (chains_then g w f c) ≡ chains_then g x e (chains_after g es z (chains_then g w f c))) →
        (o : Option Net) → and_then o (λ z. run g es z) ≡ Some x →
        if_then o (λ z. chains_after g (es ++ e ∷ []) z (chains_then g w f c)) c ≡
        chains_then g x e (if_then o (λ z. chains_after g es z (chains_then g w f c)) c)
    go rest None l = cc
    go rest (Some z) l = rest z l

-- the chains of a run with an event more
pub chains_of_more : (s : NetState) (e : Event) (d : Delta) (y : Net) → IsRun (network s) s.trace → happens (network s) (net_of s) e ≡ Some y →
    IsAnswer s e d → chains_of (network s) (s.trace ++ e ∷ []) ≡ reacted (network s) (net_of s) e d (chains_of (network s) s.trace)
unfolding chains_of
chains_of_more s e d y r h a =
    let g = network s in
    let c = chains_after g s.trace (opening g) no_chains in
    chains_more g s.trace e (opening g) (net_of s) y no_chains (after_is_net s.graph s.trace r) h
    ∙ ap (λ (o : Option Delta). answered g (net_of s) e o c) a

-- where an event takes a message, its port is kept
pub place_of : (s : NetState) (k : Kept) (e : Event) → Fits s.graph k → IsLawful s e → HasPlaceOf k e
place_of s k (Wake v) f l = tt
place_of s k (Take v p) f l = place_at s.graph k v p f (at_of (network s) v p (and_parts _ _ l).0)

-- no number comes near the end of its range
pub small_number : (s : NetState) (k k1 : Kept) (e : Event) (asleep f : Bool) (v : ℕ) → AreChains s k → seen k1 ≡ hears e asleep f (seen k) →
    length s.trace < 2 ^ 40 → slice_index k1.numbers v < 2 ^ 64 - 1
unfolding seen
small_number s k k1 e asleep f v are heard few =
    let n = length s.trace in
    let within : IsWithin n n (seen k1) =
    subst (λ (c : Chains). IsWithin n n c) (sym (heard ∙ ap (hears e asleep f) are.same))
    (hears_within e n asleep f _ (run_within (network s) s.trace)) in
    let at : slice_index k1.numbers v ≤ n = within.node v in
    omega (arith, at, few)

-- no event, no chain
pub begun_are : (g : Shape) (k : Kept) → Fits g k → seen k ≡ no_chains → AreChainsOf g [] k
unfolding chains_of
begun_are g k f same = record { fits = f; same = same }

-- the same of a net
pub none_are : (s : NetState) (k : Kept) (g : Shape) → s.graph ≡ g → s.trace ≡ [] → Fits g k → seen k ≡ no_chains → AreChains s k
unfolding chains_of
none_are s k g graph trace f same = record {
  fits = let P : Shape → Type 0 = λ (h : Shape). Fits h k in subst P (sym graph) f;
  same = same ∙ ap (λ (es : List Event). chains_of (network s) es) (sym trace);
}
