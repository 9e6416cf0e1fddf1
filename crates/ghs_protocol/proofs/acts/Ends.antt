-- What an act leaves at the two ends of each link.
use Rattle.std.proofs.Common.{◌≡◌, ◌≢◌, ℕ, ◌≤◌, refl, sym, ◌∙◌, ap, subst, subst₂}
use Rattle.ghs_node.specs.Words.{Outgoing}
use Rattle.peer_network.specs.Network.{Network, port_at, At, far, far_port}
use Rattle.peer_network.proofs.lemmas.Wired.{IsWired}
use Rattle.peer_network.specs.Updates.{put}
use Rattle.ghs_protocol.specs.Steps.{sent_on}
use Rattle.ghs_protocol.proofs.lemmas.Pushes.{pushed, unpushed}
use Rattle.ghs_graph.specs.declared.key.Key.{Key}
use Rattle.ghs_protocol.proofs.clauses.Acts.{Side}
use Rattle.ghs_protocol.proofs.acts.Sides.{acts_at}
use Rattle.peer_network.proofs.lemmas.Updates.{put_same, put_other}
use Rattle.peer_network.proofs.lemmas.Wires.{no_loop, neighbour}
use Rattle.ghs_protocol.proofs.clauses.Scene.{Seen, add, adds, Member, Scene, End, end, acts}

module _ (g : Network) (wired : IsWired g) where
  -- one act
  module _ (u : ℕ) (lo : 1 ≤ u) (hi : u ≤ g.count) (x : Member) (own : ℕ → Seen) (ss : Outgoing) (w : Scene) where
    pub here_seen : (i : ℕ) → (acts g u x own ss w).seen u i ≡ own i
    here_seen i =
        unpushed add g u u i ss (put w.seen u own) (λ a e h. no_loop g wired u a lo hi e) ∙ ap (λ (f : ℕ → Seen). f i) (put_same w.seen u own)

    pub here_end_is : (i : ℕ) →
        end g (acts g u x own ss w) u i ≡ record { port = i; key = (port_at g u i).key; mark = (x).mark (i); is = x; seen = own i }
    here_end_is i = λ k.
        record { port = i; key = (port_at g u i).key; mark = (put_same w.at u x k).mark (i); is = put_same w.at u x k; seen = here_seen i k }

    pub far_seen : (i : ℕ) →
        At g u i →
        (acts g u x own ss w).seen (far g u i) (far_port g u i) ≡ adds (w.seen (far g u i) (far_port g u i)) (sent_on ss i)
    far_seen i at =
        pushed add g wired u i ss (put w.seen u own) at ∙
        ap (λ (f : ℕ → Seen). adds (f (far_port g u i)) (sent_on ss i)) (put_other w.seen u (far g u i) own (wired.apart u i at))

    pub far_end_is : (i : ℕ) →
        At g u i →
        end g (acts g u x own ss w) (far g u i) (far_port g u i) ≡
        record {
          port = far_port g u i;
          key = (port_at g u i).key;
          mark = (w.at (far g u i)).mark (far_port g u i);
          is = w.at (far g u i);
          seen = adds (w.seen (far g u i) (far_port g u i)) (sent_on ss i);
        }
    far_end_is i at = λ k. record {
      port = far_port g u i;
      key = wired.same_key u i at k;
      mark = (put_other w.at u (far g u i) x (wired.apart u i at) k).mark (far_port g u i);
      is = put_other w.at u (far g u i) x (wired.apart u i at) k;
      seen = far_seen i at k;
    }

    pub other_seen : (a b : ℕ) → At g a b → a ≢ u → far g a b ≢ u → (acts g u x own ss w).seen a b ≡ w.seen a b
    other_seen a b at ne away =
        unpushed add g u a b ss (put w.seen u own) (λ i e h. away (neighbour g wired u i a b lo hi at e h)) ∙
        ap (λ (f : ℕ → Seen). f b) (put_other w.seen u a own ne)

    pub other_end_is : (a b : ℕ) → At g a b → a ≢ u → far g a b ≢ u → end g (acts g u x own ss w) a b ≡ end g w a b
    other_end_is a b at ne away = λ k. record {
      port = b;
      key = (port_at g a b).key;
      mark = (put_other w.at u a x ne k).mark (b);
      is = put_other w.at u a x ne k;
      seen = other_seen a b at ne away k;
    }

    -- the two ends of the link at port i of u afterwards
    abbrev pub near_end : ℕ → End
    near_end i = record { port = i; key = (port_at g u i).key; mark = x.mark i; is = x; seen = own i }

    abbrev pub across_end : ℕ → End
    across_end i = record {
      port = far_port g u i;
      key = (port_at g u i).key;
      mark = (w.at (far g u i)).mark (far_port g u i);
      is = w.at (far g u i);
      seen = adds (w.seen (far g u i) (far_port g u i)) (sent_on ss i);
    }

    abbrev w' : Scene
    w' = acts g u x own ss w

    -- a fact of both ends, which may name the link's place
    pub acts_read : (R : ℕ → ℕ → End → End → Type 0) →
        ((v p : ℕ) → At g v p → v ≢ u → far g v p ≢ u → R v p (end g w v p) (end g w (far g v p) (far_port g v p))) →
        ((i : ℕ) → At g u i → R u i (near_end i) (across_end i)) → ((i : ℕ) → At g u i → R (far g u i) (far_port g u i) (across_end i) (near_end i)) →
        (v p : ℕ) → At g v p → R v p (end g w' v p) (end g w' (far g v p) (far_port g v p))
    acts_read R before near away =
        acts_at g wired Member Seen add u lo hi x own ss (record { at = w.at; queue = w.seen })
        (λ v p s t. R v p (read v p s) (read (far g v p) (far_port g v p) t))
        before
        (λ i at. subst (λ (k : Key). R u i (near_end i) (record (across_end i) { key = k })) (sym (wired.same_key u i at)) (near i at))
        (λ i at.
        subst₂
        (λ a c. R (far g u i) (far_port g u i) (read (far g u i) (far_port g u i) (across i)) (read a c (near_side i)))
        (sym (wired.back u i at)) (sym (wired.back_port u i at))
        (subst
        (λ (k : Key). R (far g u i) (far_port g u i) (record (across_end i) { key = k }) (near_end i))
        (sym (wired.same_key u i at)) (away i at)))
      where
        -- an end, from a side of the link
        read : ℕ → ℕ → Side Member Seen → End
        read v p s = record { port = p; key = (port_at g v p).key; mark = s.is.mark p; is = s.is; seen = s.waits }

        near_side : ℕ → Side Member Seen
        near_side i = record { port = i; is = x; waits = own i }

        across : ℕ → Side Member Seen
        across i = record { port = far_port g u i; is = w.at (far g u i); waits = adds (w.seen (far g u i) (far_port g u i)) (sent_on ss i) }

    -- a fact of both ends
    pub acts_keeps : (P : End → End → Type 0) → ((v p : ℕ) → At g v p → P (end g w v p) (end g w (far g v p) (far_port g v p))) →
        ((i : ℕ) → At g u i → P (near_end i) (across_end i)) → ((i : ℕ) → At g u i → P (across_end i) (near_end i)) →
        (v p : ℕ) → At g v p → P (end g w' v p) (end g w' (far g v p) (far_port g v p))
    acts_keeps P before near away = acts_read (λ v p. P) (λ v p at ne ne'. before v p at) near away

    -- a fact of both ends, for the links but that at port b of u
    pub acts_keeps_off : (P : End → End → Type 0) (b : ℕ) →
        ((v p : ℕ) → At g v p → v ≢ u → far g v p ≢ u → P (end g w v p) (end g w (far g v p) (far_port g v p))) →
        ((i : ℕ) → At g u i → i ≢ b → P (near_end i) (across_end i)) → ((i : ℕ) → At g u i → i ≢ b → P (across_end i) (near_end i)) →
        (v p : ℕ) → At g v p → ((v ≡ u) × (p ≡ b) → ⊥) → ((far g v p ≡ u) × (far_port g v p ≡ b) → ⊥) →
        P (end g w' v p) (end g w' (far g v p) (far_port g v p))
    acts_keeps_off P b before near away =
        acts_read
        (λ v p s t. ((v ≡ u) × (p ≡ b) → ⊥) → ((far g v p ≡ u) × (far_port g v p ≡ b) → ⊥) → P s t)
        (λ v p at ne ne' off off'. before v p at ne ne')
        (λ i at off off'. near i at (λ z. off (refl, z)))
        (λ i at off off'. away i at (λ z. off' (wired.back u i at, wired.back_port u i at ∙ z)))
