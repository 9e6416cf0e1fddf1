-- Runs, event by event.
use Rattle.std.proofs.Common.{◌≡◌, List, [], ◌∷◌, ◌++◌, Option, Some, None, refl, sym, ◌∙◌, ap, subst, unwrap_or}
use Rattle.std.specs.Prelude.{option_and_then}
use Rattle.std.proofs.lemmas.Option.{same_Some}
use Rattle.ghs_graph.specs.Graph.{Shape}
use Rattle.peer_network.specs.declared.event.Event.{Event}
use Rattle.peer_network.specs.Network.{Network, network_of}
use Rattle.peer_machine.specs.Rules.{Rules}
use Rattle.peer_machine.specs.Net.{Net, opening, happens}
use Rattle.peer_machine.specs.Run.{run, IsAfter, IsRun, net_after}
use Rattle.peer_machine.specs.Steps.{Happens}
use Rattle.peer_machine.proofs.lemmas.Events.{happening, happens_so}

module _ {S M : Type 0} (r : Rules S M) where
  -- two steps that led somewhere, through a net between them
  pub both_some : {P : Type 0} (o : Option (Net S M)) (f : Net S M → Option (Net S M)) (w : Net S M) →
      option_and_then f o ≡ Some w →
      ((x : Net S M) → o ≡ Some x → f x ≡ Some w → P) →
      P
  both_some None f w e k = cc
  both_some (Some x) f w e k = k x refl e

  module _ (g : Network) where
    pub run_append : (es fs : List Event) (w : Net S M) → run r g (es ++ fs) w ≡ option_and_then (λ x. run r g fs x) (run r g es w)
    run_append [] fs w = refl
    run_append (e ∷ es) fs w = go (λ x. run_append es fs x) (happens r g w e)
      where
        go : ((x : Net S M) → run r g (es ++ fs) x ≡ option_and_then (λ y. run r g fs y) (run r g es x)) → (o : Option (Net S M)) →
            option_and_then (λ x. run r g (es ++ fs) x) o ≡ option_and_then (λ y. run r g fs y) (option_and_then (λ x. run r g es x) o)
        go ih None = refl
        go ih (Some x) = ih x

    -- one event more, at the end
    pub run_more : (es : List Event) (e : Event) (w x : Net S M) → run r g es w ≡ Some x → run r g (es ++ e ∷ []) w ≡ happens r g x e
    run_more es e w x h = run_append es (e ∷ []) w ∙ ap (option_and_then (λ x. run r g (e ∷ []) x)) h ∙ last (happens r g x e)
      where
        last : (o : Option (Net S M)) → option_and_then (λ y. Some y) o ≡ o
        last None = refl
        last (Some y) = refl

    pub after_more : (es : List Event) (e : Event) (w w' : Net S M) → IsAfter r g es w → Happens r g w e w' → IsAfter r g (es ++ e ∷ []) w'
    after_more es e w w' h k = run_more es e (opening r g) w h ∙ happens_so r g k

    -- a run's first events lead to a net, from which the others lead on
    pub run_splits : {P : Type 0} (es fs : List Event) (w w' : Net S M) → run r g (es ++ fs) w ≡ Some w' →
        ((x : Net S M) → run r g es w ≡ Some x → run r g fs x ≡ Some w' → P) → P
    run_splits es fs w w' h k = both_some (run r g es w) (λ x. run r g fs x) w' (sym (run_append es fs w) ∙ h) k

    pub run_joins : (es fs : List Event) (w x : Net S M) → run r g es w ≡ Some x → run r g (es ++ fs) w ≡ run r g fs x
    run_joins es fs w x h = run_append es fs w ∙ ap (option_and_then (λ y. run r g fs y)) h

    -- what each event keeps, a run keeps
    pub run_keeps : (I : Net S M → Type 0) → ((w w' : Net S M) (e : Event) → I w → Happens r g w e w' → I w') →
        (es : List Event) (w w' : Net S M) → I w → run r g es w ≡ Some w' → I w'
    run_keeps I each [] w w' i h = subst I (same_Some _ _ h) i
    run_keeps I each (e ∷ es) w w' i h =
        both_some (happens r g w e) (λ x. run r g es x) w' h (λ x a b. run_keeps I each es x w' (each w x e i (happening r g w x e a)) b)

  -- the net that a run's list of events stands for
  pub net_after_is : (g : Shape) (es : List Event) (w : Net S M) → IsAfter r (network_of g) es w → net_after r g es ≡ w
  unfolding net_after
  net_after_is g es w h = ap (λ o. unwrap_or o (opening r (network_of g))) h

  pub net_after_more : (g : Shape) (es : List Event) (e : Event) (w w' : Net S M) → IsAfter r (network_of g) es w → Happens r (network_of g) w e w' →
      net_after r g (es ++ e ∷ []) ≡ w'
  net_after_more g es e w w' h k = net_after_is g (es ++ e ∷ []) w' (after_more (network_of g) es e w w' h k)

  pub after_is_net : (g : Shape) (es : List Event) → IsRun r (network_of g) es → IsAfter r (network_of g) es (net_after r g es)
  after_is_net g es k = k.1 ∙ ap (λ (x : Net S M). Some x) (sym (net_after_is g es k.0 k.1))
