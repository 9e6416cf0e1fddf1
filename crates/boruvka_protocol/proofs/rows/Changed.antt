-- What an act leaves of searches and tokens where the heads of nodes change: the clauses by what they read.
use Rattle.std.proofs.Common.{◌≡◌, ◌≢◌, ℕ, ◌<◌, List, sym, ◌∙◌, subst, ⊎_elim}
use Rattle.std.proofs.lemmas.Bool.{cases_eq}
use Rattle.ghs_graph.specs.declared.key.Key.{Key}
use Rattle.boruvka_protocol.specs.Levels.{InClass}
use Rattle.peer_network.specs.Network.{Network, At, port_at, far}
use Rattle.peer_network.proofs.lemmas.Wired.{IsWired}
use Rattle.peer_machine.specs.Rules.{Outgoing}
use Rattle.peer_machine.specs.Net.{Net}
use Rattle.boruvka_node.specs.declared.message.Message.{Message}
use Rattle.boruvka_node.specs.State.{State}
use Rattle.boruvka_protocol.proofs.invariant.Words.{IsWayUp}
use Rattle.boruvka_protocol.proofs.invariant.Sides.{calls_in}
use Rattle.boruvka_protocol.proofs.invariant.Children.{HasReported}
use Rattle.boruvka_protocol.proofs.invariant.Search.{SearchFits}
use Rattle.boruvka_protocol.proofs.invariant.Token.{Token, RootIsPast, TokenFits}
use Rattle.boruvka_protocol.proofs.invariant.Whole.{SearchesFit}
use Rattle.boruvka_protocol.proofs.rows.Acts.{Acts}
use Rattle.boruvka_protocol.proofs.rows.Alike.{SameLevels, AsManyPasses}
use Rattle.boruvka_protocol.proofs.rows.Tokens.{token_stays, token_as}
use Rattle.boruvka_protocol.proofs.rows.Searches.{search_by}

module _ (ks : List Key) (g : Network) where
  -- All searches behind an act of v.
  module _ (wired : IsWired g) (w w' : Net State Message) (v : ℕ) (n : State) (own : ℕ → List Message) (ss : Outgoing Message)
      (a : Acts g w w' v n own ss) where
    -- what the child at port p of u has reported
    abbrev pub SaysIn : Net State Message → ℕ → ℕ → Type 0
    SaysIn x u p = HasReported (w.node u).head.level (x.node (far g u p)).head.level (x.node (far g u p)).head.phase (calls_in (x.queue u p))

    pub searches_changed : ((u p : ℕ) → At g u p → u ≢ v → IsWayUp ks (w.node u).head.level (far g u p) (port_at g u p).key → SaysIn w u p →
        SaysIn w' u p) →
        ((u p : ℕ) → At g u p → u ≢ v → IsWayUp ks (w.node u).head.level (far g u p) (port_at g u p).key → SaysIn w' u p → SaysIn w u p) →
        SearchesFit ks g w → SearchFits ks g v n (λ p. (w.node (far g v p)).head) own → SearchesFit ks g w'
    searches_changed to from before now u at = ⊎_elim
        (λ (e : u ≡ v).
        subst (λ y. SearchFits ks g y (w'.node y) (λ p. (w'.node (far g y p)).head) (λ p. w'.queue y p)) (sym e)
        (subst (λ (x : State). SearchFits ks g v x (λ p. (w'.node (far g v p)).head) (λ p. w'.queue v p)) (sym a.node)
        (search_by ks g v n (λ p. (w.node (far g v p)).head) (λ p. (w'.node (far g v p)).head) own (λ p. w'.queue v p)
        (λ p c r.
        subst (λ (x : State). HasReported n.head.level x.head.level x.head.phase (calls_in (w'.queue v p)))
        (a.others (far g v p) (wired.apart v p c.at))
        (subst (λ (q : List Message). HasReported n.head.level (w.node (far g v p)).head.level (w.node (far g v p)).head.phase (calls_in q))
        (sym (a.queue p c.at)) r))
        (λ p c r.
        subst (λ (x : State). HasReported n.head.level x.head.level x.head.phase (calls_in (own p)))
        (sym (a.others (far g v p) (wired.apart v p c.at)))
        (subst (λ (q : List Message). HasReported n.head.level (w'.node (far g v p)).head.level (w'.node (far g v p)).head.phase (calls_in q))
        (a.queue p c.at) r))
        now)))
        (λ ne.
        subst (λ (x : State). SearchFits ks g u x (λ p. (w'.node (far g u p)).head) (λ p. w'.queue u p)) (a.others u ne)
        (search_by ks g u (w.node u) (λ p. (w.node (far g u p)).head) (λ p. (w'.node (far g u p)).head) (λ p. w.queue u p) (λ p. w'.queue u p)
        (λ p c r. to u p c.at ne c.child r) (λ p c r. from u p c.at ne c.child r) (before u at)))
        (cases_eq u v)

  -- The tokens of the class of v at level l, where no node of it changes level, out or halted, and its root has ended its search or not as before.
  module _ (w w' : Net State Message) (levels : SameLevels w w') (passes : AsManyPasses g w w') where
    module _ (l v : ℕ) (outs : (x : ℕ) → InClass ks l v x → ◌≡◌ {A = ℕ} (w.node x).head.level l → (w.node x).head.out ≡ (w'.node x).head.out)
        (halts : (x : ℕ) → InClass ks l v x → ◌≡◌ {A = ℕ} (w.node x).head.level l → (w.node x).head.halted ≡ (w'.node x).head.halted) where
      pub token_to : Token ks g w l v → Token ks g w' l v
      token_to t = token_as ks g w w' l v t (token_stays ks g w w' l t.node t.place (levels t.node)
          (λ p at lt. subst (λ x. 0 < x) (passes t.node p at) lt)
          (λ lv p out. sym (outs t.node t.inside lv) ∙ out)
          (λ lv h. sym (halts t.node t.inside lv) ∙ h)
          t.at)

      pub token_from : Token ks g w' l v → Token ks g w l v
      token_from t = token_as ks g w' w l v t (token_stays ks g w' w l t.node t.place (sym (levels t.node))
          (λ p at lt. subst (λ x. 0 < x) (sym (passes t.node p at)) lt)
          (λ lv p out. outs t.node t.inside (levels t.node ∙ lv) ∙ out)
          (λ lv h. halts t.node t.inside (levels t.node ∙ lv) ∙ h)
          t.at)

      pub tokens_changed : (RootIsPast ks g w l v → RootIsPast ks g w' l v) → (RootIsPast ks g w' l v → RootIsPast ks g w l v) →
          TokenFits ks g w l v → TokenFits ks g w' l v
      unfolding token_from
      tokens_changed to from h = record {
        some = λ r. token_to (h.some (from r));
        one = λ s t. h.one (token_from s) (token_from t);
        none = λ t. to (h.none (token_from t));
      }
