-- What an act leaves at the two sides of each link.
use Rattle.std.proofs.Common.{◌≡◌, ◌≢◌, ℕ, ◌≤◌, sym, ◌∙◌, ap, subst, subst₂, ⊎_elim}
use Rattle.std.proofs.lemmas.Bool.{cases_eq}
use Rattle.ghs_node.specs.declared.message.Message.{Message}
use Rattle.ghs_node.specs.Words.{Outgoing}
use Rattle.peer_network.specs.Network.{Network, far, far_port, At}
use Rattle.peer_network.proofs.lemmas.Wired.{IsWired}
use Rattle.peer_network.specs.Updates.{put}
use Rattle.ghs_protocol.specs.Steps.{sent_on}
use Rattle.ghs_protocol.proofs.clauses.Acts.{add_all, Places, Side, side, acts}
use Rattle.peer_network.proofs.lemmas.Updates.{put_same, put_other}
use Rattle.peer_network.proofs.lemmas.Wires.{no_loop, neighbour}
use Rattle.ghs_protocol.proofs.lemmas.Pushes.{pushed, unpushed}

module _ (g : Network) (wired : IsWired g) where
  -- one act, at the links of its node and elsewhere
  module _ (X Q : Type 0) (add : Q → Message → Q) (u : ℕ) (lo : 1 ≤ u) (hi : u ≤ g.count) (x : X) (own : ℕ → Q) (ss : Outgoing) (w : Places X Q) where
    abbrev w' : Places X Q
    w' = acts add g u x own ss w

    -- the two sides of the link at port i of u afterwards
    abbrev pub near_side : ℕ → Side X Q
    near_side i = record { port = i; is = x; waits = own i }

    abbrev pub across_side : ℕ → Side X Q
    across_side i = record { port = far_port g u i; is = w.at (far g u i); waits = add_all add (w.queue (far g u i) (far_port g u i)) (sent_on ss i) }

    pub here_side : (i : ℕ) → side (acts add g u x own ss w) u i ≡ near_side i
    here_side i = λ k. record {
      port = i;
      is = put_same w.at u x k;
      waits =
          (unpushed add g u u i ss (put w.queue u own) (λ a e h. no_loop g wired u a lo hi e) ∙ ap (λ (f : ℕ → Q). f i) (put_same w.queue u own))
          k;
    }

    pub far_side : (i : ℕ) → At g u i → side (acts add g u x own ss w) (far g u i) (far_port g u i) ≡ across_side i
    far_side i at =
        let ne = wired.apart u i at in
        λ k. record {
          port = far_port g u i;
          is = put_other w.at u (far g u i) x ne k;
          waits =
              (pushed add g wired u i ss (put w.queue u own) at ∙
              ap (λ (f : ℕ → Q). add_all add (f (far_port g u i)) (sent_on ss i)) (put_other w.queue u (far g u i) own ne))
              k;
        }

    pub other_side : (a b : ℕ) → At g a b → a ≢ u → far g a b ≢ u → side (acts add g u x own ss w) a b ≡ side w a b
    other_side a b at ne away = λ k. record {
      port = b;
      is = put_other w.at u a x ne k;
      waits =
          (unpushed add g u a b ss (put w.queue u own) (λ i e h. away (neighbour g wired u i a b lo hi at e h)) ∙
          ap (λ (f : ℕ → Q). f b) (put_other w.queue u a own ne))
          k;
    }

    -- A fact of both sides of each link, which may name the link's place, holds after an act if it holds then at the links of the
    -- node that acts, seen from either side.
    pub acts_at : (P : ℕ → ℕ → Side X Q → Side X Q → Type 0) →
        ((v p : ℕ) → At g v p → v ≢ u → far g v p ≢ u → P v p (side w v p) (side w (far g v p) (far_port g v p))) →
        ((i : ℕ) → At g u i → P u i (near_side i) (across_side i)) →
        ((i : ℕ) → At g u i → P (far g u i) (far_port g u i) (across_side i) (near_side i)) → (v p : ℕ) → At g v p →
        P v p (side w' v p) (side w' (far g v p) (far_port g v p))
    acts_at P before near away v p at = ⊎_elim here not_here (cases_eq v u)
      where
        here : v ≡ u → P v p (side w' v p) (side w' (far g v p) (far_port g v p))
        here e =
            let at' : At g u p = subst (λ y. At g y p) e at in
            subst (λ y. P y p (side w' y p) (side w' (far g y p) (far_port g y p))) (sym e)
            (subst₂ (P u p) (sym (here_side p)) (sym (far_side p at')) (near p at'))

        there : far g v p ≡ u → P v p (side w' v p) (side w' (far g v p) (far_port g v p))
        there e =
            let i = far_port g v p in
            let at' : At g u i = subst (λ y. At g y i) e (wired.there v p at) in
            let b : far g u i ≡ v = ap (λ y. far g y i) (sym e) ∙ wired.back v p at in
            let b' : far_port g u i ≡ p = ap (λ y. far_port g y i) (sym e) ∙ wired.back_port v p at in
            let both = subst₂ (P (far g u i) (far_port g u i)) (sym (far_side i at')) (sym (here_side i)) (away i at') in
            subst (λ y. P v p (side w' v p) (side w' y i)) (sym e) (subst₂ (λ y z. P y z (side w' y z) (side w' u i)) b b' both)

        not_here : v ≢ u → P v p (side w' v p) (side w' (far g v p) (far_port g v p))
        not_here ne =
            ⊎_elim there
            (λ ne'.
            subst₂ (P v p) (sym (other_side v p at ne ne'))
            (sym (other_side _ _ (wired.there v p at) ne' (λ y. ne (sym (wired.back v p at) ∙ y)))) (before v p at ne ne'))
            (cases_eq (far g v p) u)
