-- Tokens, roots and halts in another net, by what their clauses read of a node.
use Rattle.std.proofs.Common.{◌≡◌, ℕ, ◌<◌, true, Some, List, sym, ◌∙◌, subst}
use Rattle.ghs_graph.specs.declared.key.Key.{Key}
use Rattle.boruvka_protocol.specs.Levels.{HasWayOut}
use Rattle.peer_network.specs.Network.{Network, At}
use Rattle.peer_machine.specs.Net.{Net}
use Rattle.boruvka_node.specs.declared.message.Message.{Message}
use Rattle.boruvka_node.specs.State.{State}
use Rattle.boruvka_protocol.proofs.invariant.Words.{IsPast, IsRoot}
use Rattle.boruvka_protocol.proofs.invariant.Sides.{passes_in}
use Rattle.boruvka_protocol.proofs.invariant.Token.{Place, IsTokenAt, In_message, Gone_out, Gone_on, At_end, Token, RootIsPast, HaltsFit}
use Rattle.boruvka_protocol.proofs.rows.Alike.{SameLevels, SamePhases, PastStays}

module _ (ks : List Key) (g : Network) (w w' : Net State Message) where
  -- tokens stay where they are
  abbrev pub TokensStay : Type 0
  TokensStay = (m x : ℕ) (place : Place) → IsTokenAt ks g w m x place → IsTokenAt ks g w' m x place

  -- a token stays where its node keeps its level, and what the token is there by its place
  pub token_stays : (m x : ℕ) (place : Place) → ◌≡◌ {A = ℕ} (w.node x).head.level (w'.node x).head.level →
      ((p : ℕ) → At g x p → 0 < passes_in (w.queue x p) → 0 < passes_in (w'.queue x p)) →
      (◌≡◌ {A = ℕ} (w.node x).head.level m → (p : ℕ) → (w.node x).head.out ≡ Some p → (w'.node x).head.out ≡ Some p) →
      (◌≡◌ {A = ℕ} (w.node x).head.level m → (w.node x).head.halted ≡ true → (w'.node x).head.halted ≡ true) →
      IsTokenAt ks g w m x place → IsTokenAt ks g w' m x place
  token_stays m x _ level passes out halted (In_message p at lv lt) = In_message p at (sym level ∙ lv) (passes p at lt)
  token_stays m x _ level passes out halted (Gone_out p at lv o) = Gone_out p at (sym level ∙ lv) (out lv p o)
  token_stays m x _ level passes out halted (Gone_on k lt least end) = Gone_on k (subst (λ y. m < y) level lt) least end
  token_stays m x _ level passes out halted (At_end lv h) = At_end (sym level ∙ lv) (halted lv h)

  -- the token of a class, at the same node
  abbrev pub token_as : (l v : ℕ) (t : Token ks g w l v) → IsTokenAt ks g w' l t.node t.place → Token ks g w' l v
  token_as l v t at = record { node = t.node; place = t.place; inside = t.inside; in_network = t.in_network; at = at }

  unfoldable pub tokens_stay : TokensStay → (l v : ℕ) → Token ks g w l v → Token ks g w' l v
  tokens_stay to l v t = token_as l v t (to l t.node t.place t.at)

  -- the root of a class has ended its search still
  pub root_as : (l v : ℕ) (r : RootIsPast ks g w l v) → IsPast l (w'.node r.root).head.level (w'.node r.root).head.phase →
      RootIsPast ks g w' l v
  root_as l v r past = record { root = r.root; top = r.top; past = past }

  pub root_stays : PastStays w w' → (l v : ℕ) → RootIsPast ks g w l v → RootIsPast ks g w' l v
  root_stays to l v r = root_as l v r (to l r.root r.past)

  -- who has halted, where levels and phases stay, and no node has halted that hadn't
  pub halts_stay : SameLevels w w' → SamePhases w w' → ((u : ℕ) → (w'.node u).head.halted ≡ true → (w.node u).head.halted ≡ true) →
      HaltsFit ks g w → HaltsFit ks g w'
  halts_stay levels phases halted fits u at h =
      let f = fits u at (halted u h) in
      record {
        whole = λ out. f.whole (subst (λ y. HasWayOut ks y u) (sym (levels u)) out);
        root = subst (λ y. IsRoot ks y u) (levels u) f.root;
        rest = sym (phases u) ∙ f.rest;
      }
