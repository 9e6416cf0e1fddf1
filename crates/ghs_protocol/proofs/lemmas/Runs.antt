-- Runs, event by event.
use Rattle.std.proofs.Common.{◌≡◌, ℕ, ◌↔◌, Bool, true, List, [], ◌∷◌, ◌++◌, Option, Some, None, refl, sym, ◌∙◌, ap, subst, unwrap_or}
use Rattle.std.proofs.lemmas.Bool.{and_parts, and_from}
use Rattle.std.proofs.lemmas.Option.{same_Some}
use Rattle.ghs_graph.specs.Graph.{Shape}
use Rattle.peer_network.specs.declared.event.Event.{Event}
use Rattle.peer_network.specs.declared.event.Event.TheVariants.{Wake, Take}
use Rattle.peer_network.specs.Network.{Network, network_of}
use Rattle.ghs_protocol.specs.Net.{Net, opening, happens, is_lawful, is_lawful_under}
use Rattle.ghs_protocol.specs.Run.{and_then, run, IsAfter, IsRun, net_after}
use Rattle.peer_network.specs.Events.{MayWake}
use Rattle.ghs_protocol.specs.Steps.{Happens}
use Rattle.ghs_protocol.proofs.lemmas.Events.{happening, happens_so}

-- two steps that led somewhere, through a net between them
pub both_some : {P : Type 0} (o : Option Net) (f : Net → Option Net) (w : Net) →
    and_then o f ≡ Some w →
    ((x : Net) → o ≡ Some x → f x ≡ Some w → P) →
    P
both_some None f w e k = cc
both_some (Some x) f w e k = k x refl e

module _ (g : Network) where
  pub run_append : (es fs : List Event) (w : Net) → run g (es ++ fs) w ≡ and_then (run g es w) (λ x. run g fs x)
  run_append [] fs w = refl
  run_append (e ∷ es) fs w = go (λ x. run_append es fs x) (happens g w e)
    where
      go : ((x : Net) → run g (es ++ fs) x ≡ and_then (run g es x) (λ y. run g fs y)) → (o : Option Net) →
          and_then o (λ x. run g (es ++ fs) x) ≡ and_then (and_then o (λ x. run g es x)) (λ y. run g fs y)
      go ih None = refl
      go ih (Some x) = ih x

  -- one event more, at the end
  pub run_more : (es : List Event) (e : Event) (w x : Net) → run g es w ≡ Some x → run g (es ++ e ∷ []) w ≡ happens g x e
  run_more es e w x h = run_append es (e ∷ []) w ∙ ap (λ o. and_then o (λ x. run g (e ∷ []) x)) h ∙ last (happens g x e)
    where
      last : (o : Option Net) → and_then o (λ y. Some y) ≡ o
      last None = refl
      last (Some y) = refl

  pub after_more : (es : List Event) (e : Event) (w w' : Net) → IsAfter g es w → Happens g w e w' → IsAfter g (es ++ e ∷ []) w'
  after_more es e w w' h k = run_more es e (opening g) w h ∙ happens_so k

  -- a run's first events lead to a net, from which the others lead on
  pub run_splits : {P : Type 0} (es fs : List Event) (w w' : Net) → run g (es ++ fs) w ≡ Some w' →
      ((x : Net) → run g es w ≡ Some x → run g fs x ≡ Some w' → P) → P
  run_splits es fs w w' h k = both_some (run g es w) (λ x. run g fs x) w' (sym (run_append es fs w) ∙ h) k

  pub run_joins : (es fs : List Event) (w x : Net) → run g es w ≡ Some x → run g (es ++ fs) w ≡ run g fs x
  run_joins es fs w x h = run_append es fs w ∙ ap (λ o. and_then o (λ y. run g fs y)) h

  -- what each event keeps, a run keeps
  pub run_keeps : (I : Net → Type 0) → ((w w' : Net) (e : Event) → I w → Happens g w e w' → I w') → (es : List Event) (w w' : Net) → I w →
      run g es w ≡ Some w' → I w'
  run_keeps I each [] w w' i h = subst I (same_Some _ _ h) i
  run_keeps I each (e ∷ es) w w' i h = go (λ x k. run_keeps I each es x w' k) (happens g w e) refl h
    where
      go : ((x : Net) → I x → run g es x ≡ Some w' → I w') → (o : Option Net) → happens g w e ≡ o → and_then o (λ x. run g es x) ≡ Some w' → I w'
      go rest None x y = cc
      go rest (Some v) x y = rest v (each w v e i (happening g w v e x)) y

  -- what lies between each net and the next lies between any two moments of a run
  pub run_relates : (I : Net → Type 0) (R : Net → Net → Type 0) →
      ((w : Net) → R w w) → ((w x w' : Net) → R w x → R x w' → R w w') →
      ((w w' : Net) (e : Event) → I w → Happens g w e w' → I w' × R w w') →
      (es : List Event) (w w' : Net) → I w → run g es w ≡ Some w' → R w w'
  run_relates I R same on each [] w w' i h = subst (R w) (same_Some _ _ h) (same w)
  run_relates I R same on each (e ∷ es) w w' i h = go (λ x k. run_relates I R same on each es x w' k) (happens g w e) refl h
    where
      go : ((x : Net) → I x → run g es x ≡ Some w' → R x w') → (o : Option Net) → happens g w e ≡ o → and_then o (λ x. run g es x) ≡ Some w' → R w w'
      go rest None x y = cc
      go rest (Some v) x y = let one = each w v e i (happening g w v e x) in on w v w' one.1 (rest v one.0 y)

-- the net that a run's list of events stands for
pub net_after_is : (g : Shape) (es : List Event) (w : Net) → IsAfter (network_of g) es w → net_after g es ≡ w
unfolding net_after
net_after_is g es w h = ap (λ o. unwrap_or o (opening (network_of g))) h

pub net_after_more : (g : Shape) (es : List Event) (e : Event) (w w' : Net) → IsAfter (network_of g) es w → Happens (network_of g) w e w' →
    net_after g (es ++ e ∷ []) ≡ w'
net_after_more g es e w w' h k = net_after_is g (es ++ e ∷ []) w' (after_more (network_of g) es e w w' h k)

pub after_is_net : (g : Shape) (es : List Event) → IsRun (network_of g) es → IsAfter (network_of g) es (net_after g es)
after_is_net g es r = r.1 ∙ ap (λ (x : Net). Some x) (sym (net_after_is g es r.0 r.1))

-- Runs under a wake set.

-- lawful under a wake set is lawful, where a wake may be
pub lawful_under : (may : ℕ → Bool) (g : Network) (w : Net) (e : Event) →
    ((is_lawful_under may g w e ≡ true) ↔ (MayWake may e × (is_lawful g w e ≡ true)))
lawful_under may g w (Wake v) = (λ h. and_parts (may v) (is_lawful g w (Wake v)) h, λ h. and_from (may v) (is_lawful g w (Wake v)) h.0 h.1)
lawful_under may g w (Take v p) = (λ h. (tt, h), λ h. h.1)
