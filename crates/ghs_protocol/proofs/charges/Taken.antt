-- What a row pays, from what its node pays and its ports.
use Rattle.std.proofs.Common.{◌≡◌, ◌≢◌, ℕ, suc, ◌≤◌, ◌==◌, true, false, Option, List, [], ◌∷◌, ◌++◌, length, refl, sym, ◌∙◌, ap, subst, arith, ⊎_elim, get_or, cond}
use Rattle.std.proofs.lemmas.Bool.{cases_eq}
use Rattle.std.proofs.lemmas.List.Quantifiers.{position-Some}
use Rattle.ghs_graph.specs.declared.key.Key.{Key}
use Rattle.ghs_node.specs.declared.head.Head.{Head}
use Rattle.ghs_node.specs.declared.mark.Mark.{Mark}
use Rattle.ghs_node.specs.declared.mark.Mark.TheVariants.{Basic, Rejected}
use Rattle.ghs_node.specs.declared.message.Message.{Message}
use Rattle.ghs_node.specs.declared.delta.Delta.{Delta}
use Rattle.ghs_node.specs.declared.delta.Fate.TheVariants.{Consumed}
use Rattle.ghs_node.specs.NodeState.{NodeState}
use Rattle.ghs_node.specs.Kind.{kind_of, place_of}
use Rattle.ghs_node.specs.Words.{is_basic}
use Rattle.ghs_node.specs.Reaction.{Ending, Probing}
use Rattle.ghs_node.specs.Rows.{Closes, Reports, Waits, Settles, Probes, Exhausts}
use Rattle.ghs_node.proofs.lemmas.{basic_is}
use Rattle.peer_network.specs.Network.{Network}
use Rattle.ghs_protocol.specs.Net.{Net, one_if_consumed}
use Rattle.peer_network.specs.Updates.{put}
use Rattle.ghs_protocol.specs.Steps.{taken}
use Rattle.ghs_protocol.proofs.clauses.Scene.{Seen, unseen, add, see, Scene, scene, acts, TestEnd}
use Rattle.ghs_protocol.proofs.clauses.Tests.{TestsFit}
use Rattle.ghs_protocol.proofs.clauses.Whole.{opening_ghost}
use Rattle.ghs_protocol.proofs.clauses.Charges.{Acted, Pays, Rises, any_test}
use Rattle.ghs_protocol.proofs.lemmas.Effects.{taken_here, taken_there, taken_sent, taken_consumed}
use Rattle.ghs_protocol.proofs.lemmas.Sends.{messages}
use Rattle.peer_network.proofs.lemmas.Updates.{put_same, put_other}
use Rattle.ghs_protocol.proofs.acts.AsRead.{reacts, see_first}
use Rattle.ghs_protocol.proofs.acts.Reactions.{taken_acts}
use Rattle.ghs_protocol.proofs.tests.Links.{probe_is}

any_after : (a b : List (ℕ × Key)) → any_test b ≡ true → any_test (a ++ b) ≡ true
any_after [] b e = e
any_after (t ∷ a) b e = refl

-- of one Test at most, none is left
pub none_left : (t : ℕ × Key) (ts xs : List (ℕ × Key)) → xs ≡ t ∷ ts → length xs ≤ 1 → any_test ts ≡ false
none_left t [] xs e le = refl
none_left t (s ∷ ts) xs e le = absurd (let z : length xs ≡ suc (suc (length ts)) = ap length e in omega (arith, z, le))

-- a Test that waits is alone
pub lone : (e f : TestEnd) → TestsFit f e → length e.tests ≤ 1
lone e f fits = ⊎_elim (λ p. let z = (fits.probing p).one in omega (arith, z)) (λ ne. (fits.not_probing ne).one) (probe_is f.probe f.port)

-- the port to be tested next is Basic
pub no_probing : (h : Head) (e : Ending) → Closes h e → (q : ℕ) → e ≡ Probing q → ⊥
no_probing h _ (Reports a b) q e = cc
no_probing h _ (Waits a) q e = cc

same_port : (p q : ℕ) → Probing p ≡ Probing q → q ≡ p
same_port p q e = cc

pub next_basic : (ms : List Mark) (h : Head) (e : Ending) → Settles ms h e → (q : ℕ) → e ≡ Probing q → get_or ms q Rejected ≡ Basic
next_basic ms h _ (Probes p least) q e =
    subst (λ y. get_or ms y Rejected ≡ Basic) (sym (same_port p q e))
    (basic_is (get_or ms p Rejected) (position-Some is_basic ms p Rejected least).1)
next_basic ms h e (Exhausts none c) q z = absurd (no_probing h e c q z)

module _ (g : Network) (v p : ℕ) (w : Net) (m : Message) (ms : List Message) where
  -- no more Tests wait, once the first message is taken
  pub fewer :
      w.queue v p ≡ m ∷ ms →
      (i : ℕ) → any_test (put (λ i. see (w.queue v i)) p (see ms) i).tests ≡ true →
      any_test (see (w.queue v i)).tests ≡ true
  fewer waits i h = ⊎_elim here elsewhere (cases_eq i p)
    where
      left : any_test (put (λ i. see (w.queue v i)) p (see ms) p).tests ≡ true → any_test (see ms).tests ≡ true
      left some = ap (λ (s : Seen). any_test s.tests) (sym (put_same (λ i. see (w.queue v i)) p (see ms))) ∙ some

      first : any_test (see ms).tests ≡ true → any_test (see (w.queue v p)).tests ≡ true
      first some =
          ap (λ (q : List Message). any_test (see q).tests) waits ∙ ap (λ (s : Seen). any_test s.tests) (see_first m ms) ∙
          any_after (add unseen m).tests (see ms).tests some

      here : i ≡ p → any_test (see (w.queue v i)).tests ≡ true
      here e =
          subst (λ y. any_test (see (w.queue v y)).tests ≡ true) (sym e)
          (first (left (subst (λ y. any_test (put (λ i. see (w.queue v i)) p (see ms) y).tests ≡ true) e h)))

      elsewhere : i ≢ p → any_test (see (w.queue v i)).tests ≡ true
      elsewhere ne = ap (λ (s : Seen). any_test s.tests) (sym (put_other (λ i. see (w.queue v i)) p i (see ms) ne)) ∙ h

  module _ (d : Delta) where
    -- the net, as ports read it, before and after
    abbrev pub before : Scene
    before = scene w opening_ghost

    abbrev pub afterwards : Scene
    afterwards = acts g v (reacts g v w opening_ghost d) (put (λ i. see (w.queue v i)) p (see ms)) d.sends before

    pub arrives : d.fate ≡ Consumed → (a : ℕ) → Rises g before afterwards v p a → Rises g before (scene (taken g v p m ms d w) opening_ghost) v p a
    arrives once a h = subst (λ (z : Scene). Rises g before z v p a) (sym (taken_acts g v w opening_ghost p m ms d once)) h

    pub taken_pays :
        (k : ℕ) (up up' : ℕ → Option ℕ) (a : ℕ) → ((u : ℕ) → u ≢ v → up' u ≡ up u) →
        Rises g before (scene (taken g v p m ms d w) opening_ghost) v p a →
        Pays k (w.node v).head (up v) d.head (up' v) (λ j. cond (place_of (kind_of m) == j) (one_if_consumed d.fate) 0) (messages d.sends) a →
        Acted g k v up up' w (taken g v p m ms d w)
    taken_pays k up up' a ways more pays = record {
      came = λ j. cond (place_of (kind_of m) == j) (one_if_consumed d.fate) 0;
      kinds = messages d.sends;
      port = p;
      paid_more = a;
      there = taken_there g v p m ms d w;
      ways = ways;
      sent = taken_sent g v p m ms d w;
      consumed = taken_consumed g v p m ms d w;
      ports = more;
      pays =
          subst (λ (n : NodeState).
          Pays k (w.node v).head (up v) n.head (up' v) (λ j. cond (place_of (kind_of m) == j) (one_if_consumed d.fate) 0) (messages d.sends) a)
          (sym (taken_here g v p m ms d w)) pays;
    }
