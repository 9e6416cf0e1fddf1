-- What is kept of a run, one event more.
use Rattle.std.proofs.Common.{◌≡◌, Option, Some, None, List, [], ◌∷◌, ◌++◌, ◌∙◌, ap}
use Rattle.std.specs.Prelude.{option_and_then}
use Rattle.std.proofs.lemmas.Option.{same_Some}
use Rattle.peer_network.specs.declared.event.Event.{Event}
use Rattle.peer_network.specs.Network.{Network}
use Rattle.peer_machine.specs.Rules.{Rules}
use Rattle.peer_machine.specs.Net.{Net, happens}
use Rattle.peer_machine.specs.Run.{run}
use Rattle.peer_lengths.specs.Sends.{if_net, followed}

module _ {S M A : Type 0} (r : Rules S M) (f : Net S M → Event → A → A) (g : Network) where
  one_followed : (e : Event) (w y : Net S M) (a : A) → happens r g w e ≡ Some y → followed r f g (e ∷ []) w a ≡ f w e a
  one_followed e w y a h = ap (λ (o : Option (Net S M)). if_net o (λ (x : Net S M). f w e a) a) h

  pub followed_more : (es : List Event) (e : Event) (w x y : Net S M) (a : A) → run r g es w ≡ Some x → happens r g x e ≡ Some y →
      followed r f g (es ++ e ∷ []) w a ≡ f x e (followed r f g es w a)
  followed_more [] e w x y a h k =
      let same : w ≡ x = same_Some w x h in
      let here : happens r g w e ≡ Some y = ap (λ (z : Net S M). happens r g z e) same ∙ k in
      one_followed e w y a here ∙ ap (λ (z : Net S M). f z e a) same
  followed_more (d ∷ es) e w x y a h k = go (λ z l. followed_more es e z x y (f w d a) l k) (happens r g w d) h
    where
      go :
          ((z : Net S M) → run r g es z ≡ Some x → followed r f g (es ++ e ∷ []) z (f w d a) ≡ f x e (followed r f g es z (f w d a))) →
          (o : Option (Net S M)) → option_and_then (λ z. run r g es z) o ≡ Some x →
          if_net o (λ z. followed r f g (es ++ e ∷ []) z (f w d a)) a ≡ f x e (if_net o (λ z. followed r f g es z (f w d a)) a)
      go rest None l = cc
      go rest (Some z) l = rest z l
