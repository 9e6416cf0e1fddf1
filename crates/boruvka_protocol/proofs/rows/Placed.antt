-- A node that held the token of its class has put it down: all tokens fit again.
use Rattle.std.proofs.Common.{◌≡◌, ◌⊎◌, ℕ, ⊎_elim, List, sym, ◌∙◌, subst}
use Rattle.std.proofs.lemmas.Bool.{cases_eq}
use Rattle.ghs_graph.specs.declared.key.Key.{Key}
use Rattle.ghs_graph.proofs.lemmas.Joining.{joined_then, joined_back}
use Rattle.boruvka_protocol.specs.Levels.{InClass, IsOfLevel}
use Rattle.boruvka_protocol.proofs.lemmas.Computing.{in_class_decided}
use Rattle.boruvka_protocol.proofs.lemmas.WaysUp.{top_at}
use Rattle.peer_network.specs.Network.{Network, InNetwork}
use Rattle.peer_machine.specs.Net.{Net}
use Rattle.boruvka_node.specs.declared.message.Message.{Message}
use Rattle.boruvka_node.specs.State.{State}
use Rattle.boruvka_protocol.proofs.invariant.Token.{Place, IsTokenAt, Token, RootIsPast, TokenFits, HaltsFit, TokensFit}
use Rattle.boruvka_protocol.proofs.rows.Alike.{PastStays}
use Rattle.boruvka_protocol.proofs.rows.Tokens.{TokensStay, token_as, tokens_stay, root_stays}
use Rattle.boruvka_protocol.proofs.rows.AboutToMove.{TokensBut}

module _ (ks : List Key) (g : Network) (w w' : Net State Message) (v l y : ℕ) (place : Place) (level : (w.node v).head.level ≡ l)
    (tokens : TokensBut ks g w v) (in_network : InNetwork g y) (inside : InClass ks l v y) (now : IsTokenAt ks g w' l y place)
    (to : TokensStay ks g w w')
    (from : (m x : ℕ) (p : Place) → IsTokenAt ks g w' m x p → IsTokenAt ks g w m x p ⊎ ((m ≡ l) × (x ≡ y) × (p ≡ place)))
    (past : PastStays w w') (past_back : PastStays w' w) (halted : HaltsFit ks g w') where
  -- of v's class
  module _ (u : ℕ) (way : InClass ks l v u) where
    only : (s : Token ks g w' l u) → (s.node ≡ y) × (s.place ≡ place)
    only s = ⊎_elim
        (λ old.
        let t : Token ks g w l v =
        record { node = s.node; place = s.place; inside = joined_then way s.inside; in_network = s.in_network; at = old } in
        absurd (tokens.none (subst (λ x. Token ks g w x v) (sym level) t)))
        (λ e. (e.1, e.2))
        (from l s.node s.place s.at)

    past_at : RootIsPast ks g w' l u
    past_at =
        let r : RootIsPast ks g w l v = subst (λ x. RootIsPast ks g w x v) level tokens.past in
        record { root = r.root; top = top_at ks l v u r.root way r.top; past = past l r.root r.past }

    own : TokenFits ks g w' l u
    own = record {
      some = λ r. record { node = y; place = place; inside = joined_then (joined_back way) inside; in_network = in_network; at = now };
      one = λ s t. let a = only s in let b = only t in (a.0 ∙ sym b.0, a.1 ∙ sym b.1);
      none = λ t. past_at;
    }

  -- of another one
  module _ (m u : ℕ) (apart : m ≡ l → InClass ks l v u → ⊥) (fits : TokenFits ks g w m u) where
    back : Token ks g w' m u → Token ks g w m u
    back s = token_as ks g w' w m u s
        (⊎_elim (λ old. old)
        (λ e.
        absurd (apart e.0 (joined_then inside (joined_back (subst (λ x. InClass ks l u x) e.1 (subst (λ x. InClass ks x u s.node) e.0 s.inside))))))
        (from m s.node s.place s.at))

    other : TokenFits ks g w' m u
    unfolding back
    other = record {
      some = λ r. tokens_stay ks g w w' to m u (fits.some (root_stays ks g w' w past_back m u r));
      one = λ s t. fits.one (back s) (back t);
      none = λ t. root_stays ks g w w' past m u (fits.none (back t));
    }

  pub put_down : TokensFit ks g w'
  put_down = record {
    halted = halted;
    one = λ m u at proper. ⊎_elim
        (λ way. ⊎_elim
        (λ (e : m ≡ l). subst (λ x. TokenFits ks g w' x u) (sym e) (own u way))
        (λ ne. elsewhere m u at proper (λ e i. ne e))
        (cases_eq m l))
        (λ out. elsewhere m u at proper (λ e i. out i))
        (in_class_decided ks l v u);
  }
    where
      elsewhere : (m u : ℕ) → InNetwork g u → IsOfLevel ks m u → (m ≡ l → InClass ks l v u → ⊥) → TokenFits ks g w' m u
      elsewhere m u at proper apart = other m u apart
          (tokens.one m u at proper (λ e i. apart (e ∙ level) (subst (λ x. InClass ks x v u) (e ∙ level) i)))
