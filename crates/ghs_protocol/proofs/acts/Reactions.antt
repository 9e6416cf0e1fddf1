-- Reactions as acts of the scene, and acts one after another.
use Rattle.std.proofs.Common.{◌≡◌, ◌≢◌, ℕ, Bool, true, false, ◌||◌, ◌==◌, Option, List, [], ◌∷◌, ◌++◌, refl, sym, ◌∙◌, ap, subst, cond, ⊎_elim, if◌then◌else◌}
use Rattle.std.proofs.Math.Path.{fun_ext}
use Rattle.std.proofs.lemmas.Bool.{cases_eq, eqb-false}
use Rattle.ghs_graph.specs.declared.key.Key.{Key}
use Rattle.ghs_node.specs.Words.{Outgoing}
use Rattle.ghs_node.specs.declared.message.Message.{Message}
use Rattle.ghs_node.specs.declared.delta.Delta.{Delta}
use Rattle.ghs_node.specs.declared.delta.Fate.TheVariants.{Consumed}
use Rattle.ghs_node.specs.NodeState.{NodeState, mark_at}
use Rattle.ghs_node.specs.Reaction.{after, requeues}
use Rattle.peer_network.specs.Network.{Network}
use Rattle.ghs_protocol.specs.Net.{Net, change, take_first}
use Rattle.peer_network.specs.Updates.{put, put_at}
use Rattle.ghs_protocol.specs.Steps.{reacted, taken}
use Rattle.ghs_protocol.proofs.clauses.Scene.{Seen, see, Member, member, Scene, scene, Ghost, push_all, acts}
use Rattle.ghs_protocol.proofs.clauses.Uniting.{joining, relabel}
use Rattle.peer_network.proofs.lemmas.Updates.{put_same, put_other, put_put}
use Rattle.ghs_protocol.proofs.lemmas.Sends.{node_sent}
use Rattle.ghs_protocol.proofs.acts.AsRead.{seen_sent, see_put, reacts}

-- what stands there put in again
pub put_again : {A : Type 0} (f : ℕ → A) (i : ℕ) → put f i (f i) ≡ f
put_again f i = fun_ext (λ j. ⊎_elim (λ (e : j ≡ i). rw e (put_same f i (f i))) (λ ne. put_other f i j (f i) ne) (cases_eq j i))

-- the memory, where v's way to the root is this
abbrev pub with_up : Ghost → ℕ → Option ℕ → Ghost
with_up gh v o = record gh { up = put gh.up v o }

-- the memory, where fragments c and a are fragment a, of this coming level and name
abbrev pub regrouped : ℕ → ℕ → ℕ → Option Key → Ghost → Ghost
regrouped c a l n gh =
    record gh {
      fragment = λ v. if (gh.fragment v == c) || (gh.fragment v == a) then a else gh.fragment v;
      coming = put gh.coming a l;
      coming_name = put gh.coming_name a n;
    }

or_right : (x y : Bool) → (x || y) ≡ false → y ≡ false
or_right true y e = cc
or_right false y e = e

module _ (c a l : ℕ) (n : Option Key) (w : Net) (gh : Ghost) where
  group_member : (v : ℕ) → member w (regrouped c a l n gh) v ≡ joining c a l n (member w gh v)
  group_member v = go ((gh.fragment v == c) || (gh.fragment v == a)) refl
    where
      go :
          (b : Bool) → ((gh.fragment v == c) || (gh.fragment v == a)) ≡ b →
          record (member w gh v) {
            fragment = cond b a (gh.fragment v);
            coming = put gh.coming a l (cond b a (gh.fragment v));
            coming_name = put gh.coming_name a n (cond b a (gh.fragment v));
          } ≡
          cond b (record (member w gh v) { fragment = a; coming = l; coming_name = n }) (member w gh v)
      go true e = λ i. record (member w gh v) { fragment = a; coming = put_same gh.coming a l i; coming_name = put_same gh.coming_name a n i }
      go false e =
          let ne : gh.fragment v ≢ a = eqb-false (gh.fragment v) a (or_right _ _ e) in
          λ i. record (member w gh v) {
            coming = put_other gh.coming a (gh.fragment v) l ne i;
            coming_name = put_other gh.coming_name a (gh.fragment v) n ne i;
          }

  pub grouped_scene : scene w (regrouped c a l n gh) ≡ relabel c a l n (scene w gh)
  grouped_scene = λ i. record { at = fun_ext group_member i; seen = λ x y. see (w.queue x y) }

module _ (g : Network) (v : ℕ) where
  of_node : Ghost → ℕ → NodeState → Member
  of_node gh u n = record {
    head = n.head;
    mark = λ q. mark_at n q;
    fragment = gh.fragment u;
    coming = gh.coming (gh.fragment u);
    coming_name = gh.coming_name (gh.fragment u);
    up = gh.up u;
  }

  -- what a reaction leaves, where v's way to the root is then this one
  pub reacted_scene :
      (w : Net) (gh : Ghost) (o : Option ℕ) (d : Delta) →
      scene (reacted g v d w) (with_up gh v o) ≡
      record { at = put (scene w gh).at v (record (reacts g v w gh d) { up = o }); seen = push_all g v d.sends (scene w gh).seen }
  unfolding of_node
  reacted_scene w gh o d = λ i. record { at = fun_ext at i; seen = seen_sent g v d.sends (change v d w) i }
    where
      x : Member
      x = record (reacts g v w gh d) { up = o }

      put_member : (u : ℕ) → of_node (with_up gh v o) u (put w.node v (after (w.node v) d) u) ≡ put (λ y. member w gh y) v x u
      put_member u =
          ⊎_elim (λ (e : u ≡ v).
          subst (λ y. of_node (with_up gh v o) y (put w.node v (after (w.node v) d) y) ≡ put (λ y. member w gh y) v x y) (sym e) here)
          away (cases_eq u v)
        where
          here : of_node (with_up gh v o) v (put w.node v (after (w.node v) d) v) ≡ put (λ y. member w gh y) v x v
          here =
              ap (of_node (with_up gh v o) v) (put_same w.node v (after (w.node v) d)) ∙
              (λ i. record (reacts g v w gh d) { up = put_same gh.up v o i }) ∙
              sym (put_same (λ y. member w gh y) v x)

          away : u ≢ v → of_node (with_up gh v o) u (put w.node v (after (w.node v) d) u) ≡ put (λ y. member w gh y) v x u
          away ne =
              ap (of_node (with_up gh v o) u) (put_other w.node v u (after (w.node v) d) ne) ∙
              (λ i. record (member w gh u) { up = put_other gh.up v u o ne i }) ∙
              sym (put_other (λ y. member w gh y) v u x ne)

      at : (u : ℕ) → member (reacted g v d w) (with_up gh v o) u ≡ put (λ y. member w gh y) v x u
      at u = ap (λ (n : ℕ → NodeState). of_node (with_up gh v o) u (n u)) (node_sent g v d.sends (change v d w)) ∙ put_member u

  -- a message that is taken for good
  pub taken_up :
      (w : Net) (gh : Ghost) (o : Option ℕ) (p : ℕ) (m : Message) (ms : List Message) (d : Delta) → d.fate ≡ Consumed →
      scene (taken g v p m ms d w) (with_up gh v o) ≡
      acts g v (record (reacts g v w gh d) { up = o }) (put (λ i. see (w.queue v i)) p (see ms)) d.sends (scene w gh)
  taken_up w gh o p m ms d e =
      ap (λ f. scene (reacted g v d (take_first f v p m ms w)) (with_up gh v o)) e ∙
      reacted_scene (take_first Consumed v p m ms w) gh o d ∙
      (λ i. record { at = put (scene w gh).at v (record (reacts g v w gh d) { up = o }); seen = push_all g v d.sends (seen i) })
    where
      seen : (λ (a b : ℕ). see (put_at w.queue v p ms a b)) ≡ put (λ a b. see (w.queue a b)) v (put (λ i. see (w.queue v i)) p (see ms))
      seen = fun_ext (λ a. fun_ext (λ b. see_put w.queue v p ms a b))

  same_up : (gh : Ghost) → with_up gh v (gh.up v) ≡ gh
  same_up gh = λ i. record gh { up = put_again gh.up v i }

  -- the same, where the way to the root stays
  pub taken_acts :
      (w : Net) (gh : Ghost) (p : ℕ) (m : Message) (ms : List Message) (d : Delta) → d.fate ≡ Consumed →
      scene (taken g v p m ms d w) gh ≡ acts g v (reacts g v w gh d) (put (λ i. see (w.queue v i)) p (see ms)) d.sends (scene w gh)
  taken_acts w gh p m ms d e = ap (scene (taken g v p m ms d w)) (sym (same_up gh)) ∙ taken_up w gh (gh.up v) p m ms d e

  -- a node that reacts to no message
  pub wake_acts :
      (w : Net) (gh : Ghost) (o : Option ℕ) (d : Delta) →
      scene (reacted g v d w) (with_up gh v o) ≡ acts g v (record (reacts g v w gh d) { up = o }) ((scene w gh).seen v) d.sends (scene w gh)
  wake_acts w gh o d =
      reacted_scene w gh o d ∙
      (λ i. record {
        at = put (scene w gh).at v (record (reacts g v w gh d) { up = o });
        seen = push_all g v d.sends (sym (put_again (scene w gh).seen v) i);
      })

  -- a message that goes round, where the queue looks as before, changes nothing
  pub round_scene :
      (w : Net) (gh : Ghost) (p : ℕ) (m : Message) (ms : List Message) → see (ms ++ m ∷ []) ≡ see (w.queue v p) →
      scene (taken g v p m ms (requeues (w.node v).head) w) gh ≡ scene w gh
  round_scene w gh p m ms e = λ i. record { at = λ u. member (record w { node = put_again w.node v i }) gh u; seen = seen i }
    where
      seen : ◌≡◌ {A = ℕ → ℕ → Seen} (λ a b. see (put_at w.queue v p (ms ++ m ∷ []) a b)) (λ a b. see (w.queue a b))
      seen =
          fun_ext (λ a. fun_ext (λ b. see_put w.queue v p (ms ++ m ∷ []) a b)) ∙
          ap (λ (s : Seen). put (λ a b. see (w.queue a b)) v (put (λ i. see (w.queue v i)) p s)) e ∙
          ap (put (λ a b. see (w.queue a b)) v) (put_again (λ i. see (w.queue v i)) p) ∙
          put_again (λ a b. see (w.queue a b)) v

  pushes : (s t : Outgoing) (q : ℕ → ℕ → Seen) → push_all g v (s ++ t) q ≡ push_all g v t (push_all g v s q)
  pushes [] t q = refl
  pushes (x ∷ s) t q = pushes s t _

  -- an act whose sends are those of two
  pub acts_split : (x y : Member) (own : ℕ → Seen) (s t : Outgoing) (w : Scene) →
      acts g v x own (s ++ t) w ≡ acts g v x ((acts g v y own s w).seen v) t (acts g v y own s w)
  acts_split x y own s t w =
      λ i. record {
        at = sym (put_put w.at v y x) i;
        seen = (pushes s t (put w.seen v own) ∙ ap (push_all g v t) (sym (put_again (push_all g v s (put w.seen v own)) v))) i;
      }
