-- One act: a node changes, and it sends. What that leaves of all else, link by link.
use Rattle.std.proofs.Common.{◌≡◌, ◌≢◌, ℕ, List, ◌++◌, refl, sym, ◌∙◌, ap, subst, ⊎_elim}
use Rattle.std.proofs.lemmas.Bool.{cases_eq}
use Rattle.ghs_graph.specs.declared.key.Key.{Key}
use Rattle.peer_network.specs.Network.{Network, At, InNetwork, far, far_port}
use Rattle.peer_network.proofs.lemmas.Wired.{IsWired}
use Rattle.peer_network.proofs.lemmas.Wires.{neighbour}
use Rattle.peer_network.proofs.lemmas.Updates.{put_same, put_other, put_at_same, put_at_port, put_at_node}
use Rattle.peer_machine.specs.Rules.{Outgoing}
use Rattle.peer_machine.specs.Net.{Net, put, reacted, take_first}
use Rattle.peer_machine.proofs.lemmas.Sends.{node_here, node_there, queue_kept}
use Rattle.boruvka_node.specs.declared.message.Message.{Message}
use Rattle.boruvka_node.specs.State.{State}
use Rattle.boruvka_node.specs.Reaction.{Outcome}
use Rattle.boruvka_node.specs.Boruvka.{boruvka}
use Rattle.boruvka_protocol.proofs.invariant.Sides.{AtPort, at_port}
use Rattle.boruvka_protocol.proofs.invariant.Whole.{LinkFits, LinkIn, LinksFit}
use Rattle.boruvka_protocol.proofs.rows.Sends.{sent_on, queue_there, queue_here}

-- from w node v has come to the state n; own is what is left at its ports, and ss is what it has sent
pub record Acts (g : Network) (w w' : Net State Message) (v : ℕ) (n : State) (own : ℕ → List Message) (ss : Outgoing Message) : Type 0 where
  pub node : w'.node v ≡ n
  pub others : (u : ℕ) → u ≢ v → w.node u ≡ w'.node u
  pub queue : (i : ℕ) → At g v i → w'.queue v i ≡ own i
  pub far_queue : (i : ℕ) → At g v i → w'.queue (far g v i) (far_port g v i) ≡ w.queue (far g v i) (far_port g v i) ++ sent_on ss i
  pub queues : (u q : ℕ) → u ≢ v → ((i : ℕ) → far g v i ≡ u → far_port g v i ≡ q → ⊥) → w'.queue u q ≡ w.queue u q

module _ (g : Network) (wired : IsWired g) where
  -- a reaction, and one to a message that was taken, are acts
  pub acts_woken : (w : Net State Message) (v : ℕ) (o : Outcome) → Acts g w (reacted boruvka g v o w) v o.state (w.queue v) o.sends
  acts_woken w v o = record {
    node = node_here boruvka g v o w;
    others = λ u ne. sym (node_there boruvka g v o w u ne);
    queue = λ i at. queue_here boruvka g wired v o w i at;
    far_queue = λ i at. queue_there boruvka g wired v o w i at;
    queues = λ u q ne away. queue_kept boruvka g v u q o.sends (record w { node = put w.node v o.state }) away;
  }

  pub acts_taken : (w : Net State Message) (v p : ℕ) (m : Message) (ms : List Message) (o : Outcome) →
      Acts g w (reacted boruvka g v o (take_first boruvka g v p m ms w)) v o.state (put (w.queue v) p ms) o.sends
  acts_taken w v p m ms o = let x = take_first boruvka g v p m ms w in record {
    node = node_here boruvka g v o x;
    others = λ u ne. sym (node_there boruvka g v o x u ne);
    queue = λ i at. queue_here boruvka g wired v o x i at ∙ own i;
    far_queue = λ i at.
        queue_there boruvka g wired v o x i at
        ∙ ap (λ (q : List Message). q ++ sent_on o.sends i) (put_at_node w.queue v p (far g v i) (far_port g v i) ms (wired.apart v i at));
    queues = λ u q ne away.
        queue_kept boruvka g v u q o.sends (record x { node = put x.node v o.state }) away ∙ put_at_node w.queue v p u q ms ne;
  }
    where
      own : (i : ℕ) → (take_first boruvka g v p m ms w).queue v i ≡ put (w.queue v) p ms i
      own i = ⊎_elim
          (λ (e : i ≡ p).
          subst (λ y. (take_first boruvka g v p m ms w).queue v y ≡ put (w.queue v) p ms y) (sym e)
          (put_at_same w.queue v p ms ∙ sym (put_same (w.queue v) p ms)))
          (λ ne. put_at_port w.queue v p i ms ne ∙ sym (put_other (w.queue v) p i ms ne))
          (cases_eq i p)

  module _ (ks : List Key) where
    -- a link with the same at its ends
    pub fits_like : {v p : ℕ} {n n' m m' : AtPort} {q q' r r' : List Message} → n ≡ n' → m ≡ m' → q ≡ q' → r ≡ r' → LinkFits ks g v p n m q r →
        LinkFits ks g v p n' m' q' r'
    fits_like {v} {p} {n} {n'} {m} {m'} {q} {q'} {r} {r'} en em eq er h =
        subst (λ x. LinkFits ks g v p n' m' q' x) er
        (subst (λ x. LinkFits ks g v p n' m' x r) eq (subst (λ x. LinkFits ks g v p n' x q r) em (subst (λ x. LinkFits ks g v p x m q r) en h)))

    -- a link of a net, seen from the far end of port i of v
    pub far_link : (w : Net State Message) → LinksFit ks g w → (v i : ℕ) → At g v i →
        LinkFits ks g (far g v i) (far_port g v i) (at_port (w.node (far g v i)) (far_port g v i)) (at_port (w.node v) i)
        (w.queue (far g v i) (far_port g v i)) (w.queue v i)
    far_link w links v i at =
        let u = far g v i in
        let b = far_port g v i in
        fits_like refl
        (ap (λ y. at_port (w.node y) (far_port g u b)) (wired.back v i at) ∙ ap (λ y. at_port (w.node v) y) (wired.back_port v i at))
        refl
        (ap (λ y. w.queue y (far_port g u b)) (wired.back v i at) ∙ ap (λ y. w.queue v y) (wired.back_port v i at))
        (links u b (wired.there v i at))

    module _ (w w' : Net State Message) (v : ℕ) (n : State) (own : ℕ → List Message) (ss : Outgoing Message) (a : Acts g w w' v n own ss)
        (here : InNetwork g v) where
      -- what waits at the far end of port i now
      abbrev sent_to : ℕ → List Message
      sent_to i = w.queue (far g v i) (far_port g v i) ++ sent_on ss i

      -- what the node at the far end of port i has there
      abbrev across : ℕ → AtPort
      across i = at_port (w.node (far g v i)) (far_port g v i)

      -- port i of v, in the net behind the act
      pub now_near : (i : ℕ) → At g v i → LinkFits ks g v i (at_port n i) (across i) (own i) (sent_to i) → LinkIn ks g w' v i
      now_near i at near = fits_like
          (ap (λ (x : State). at_port x i) (sym a.node))
          (ap (λ (x : State). at_port x (far_port g v i)) (a.others (far g v i) (wired.apart v i at)))
          (sym (a.queue i at)) (sym (a.far_queue i at)) near

      -- The links of v from the far end are given; those of other nodes alone are as they were.
      module _ (links : (u q : ℕ) → At g u q → u ≢ v → far g u q ≢ v → LinkIn ks g w u q)
          (away : (i : ℕ) → At g v i → LinkFits ks g (far g v i) (far_port g v i) (across i) (at_port n i) (sent_to i) (own i)) where
        now_away : (u q i : ℕ) → At g v i → u ≢ v → far g v i ≡ u → far_port g v i ≡ q → far g u q ≡ v → far_port g u q ≡ i → LinkIn ks g w' u q
        now_away u q i at ne eu eq ev ei = fits_like
            (ap (λ (x : State). at_port x q) (a.others u ne))
            (ap (λ (x : State). at_port x i) (sym a.node) ∙ back)
            (subst (λ y. w.queue y q ++ sent_on ss i ≡ w'.queue y q) eu
            (subst (λ y. w.queue (far g v i) y ++ sent_on ss i ≡ w'.queue (far g v i) y) eq (sym (a.far_queue i at))))
            (sym (a.queue i at) ∙ sym (ap (λ y. w'.queue y i) ev) ∙ sym (ap (λ y. w'.queue (far g u q) y) ei))
            there
          where
            back : at_port (w'.node v) i ≡ at_port (w'.node (far g u q)) (far_port g u q)
            back = sym (ap (λ y. at_port (w'.node y) i) ev) ∙ sym (ap (λ y. at_port (w'.node (far g u q)) y) ei)

            there : LinkFits ks g u q (at_port (w.node u) q) (at_port n i) (w.queue u q ++ sent_on ss i) (own i)
            there = subst (λ y. LinkFits ks g y q (at_port (w.node y) q) (at_port n i) (w.queue y q ++ sent_on ss i) (own i)) eu
                (subst
                (λ y. LinkFits ks g (far g v i) y (at_port (w.node (far g v i)) y) (at_port n i) (w.queue (far g v i) y ++ sent_on ss i) (own i)) eq
                (away i at))

        now_other : (u q : ℕ) → At g u q → u ≢ v → far g u q ≢ v → LinkIn ks g w' u q
        now_other u q at ne fne = fits_like
            (ap (λ (x : State). at_port x q) (a.others u ne))
            (ap (λ (x : State). at_port x (far_port g u q)) (a.others (far g u q) fne))
            (sym (a.queues u q ne (λ j e h. fne (neighbour g wired v j u q here.some here.node at e h))))
            (sym (a.queues (far g u q) (far_port g u q) fne
            (λ j e h.
            ne (sym (wired.back u q at) ∙ neighbour g wired v j (far g u q) (far_port g u q) here.some here.node (wired.there u q at) e h))))
            (links u q at ne fne)

        -- one link, which may be v's own
        pub link_by : (u q : ℕ) → At g u q → (u ≡ v → LinkFits ks g v q (at_port n q) (across q) (own q) (sent_to q)) →
            LinkIn ks g w' u q
        link_by u q at near = ⊎_elim
            (λ (e : u ≡ v). subst (λ y. LinkIn ks g w' y q) (sym e) (now_near q (subst (λ y. At g y q) e at) (near e)))
            (λ ne. ⊎_elim
            (λ (e : far g u q ≡ v).
            now_away u q (far_port g u q) (subst (λ y. At g y (far_port g u q)) e (wired.there u q at)) ne
            (subst (λ y. far g y (far_port g u q) ≡ u) e (wired.back u q at))
            (subst (λ y. far_port g y (far_port g u q) ≡ q) e (wired.back_port u q at)) e refl)
            (λ fne. now_other u q at ne fne)
            (cases_eq (far g u q) v))
            (cases_eq u v)

        pub links_around : ((i : ℕ) → At g v i → LinkFits ks g v i (at_port n i) (across i) (own i) (sent_to i)) → LinksFit ks g w'
        links_around near u q at = link_by u q at (λ e. near q (subst (λ y. At g y q) e at))

      -- The same where all links fitted before.
      pub links_act : LinksFit ks g w →
          ((i : ℕ) → At g v i → LinkFits ks g v i (at_port n i) (across i) (own i) (sent_to i)) →
          ((i : ℕ) → At g v i → LinkFits ks g (far g v i) (far_port g v i) (across i) (at_port n i) (sent_to i) (own i)) → LinksFit ks g w'
      links_act links near away = links_around (λ u q at ne fne. links u q at) away near

      -- The same where all but the link at port j is as it was.
      pub links_one : LinksFit ks g w → (j : ℕ) → ((i : ℕ) → i ≢ j → at_port (w.node v) i ≡ at_port n i) →
          ((i : ℕ) → i ≢ j → w.queue v i ≡ own i) → ((i : ℕ) → i ≢ j → w.queue (far g v i) (far_port g v i) ≡ sent_to i) →
          LinkFits ks g v j (at_port n j) (across j) (own j) (sent_to j) →
          LinkFits ks g (far g v j) (far_port g v j) (across j) (at_port n j) (sent_to j) (own j) → LinksFit ks g w'
      links_one links j ports left sent near away = links_act links
          (λ i at. ⊎_elim
          (λ (e : i ≡ j). subst (λ y. LinkFits ks g v y (at_port n y) (across y) (own y) (sent_to y)) (sym e) near)
          (λ ne. fits_like (ports i ne) refl (left i ne) (sent i ne) (links v i at))
          (cases_eq i j))
          (λ i at. ⊎_elim
          (λ (e : i ≡ j).
          subst (λ y. LinkFits ks g (far g v y) (far_port g v y) (across y) (at_port n y) (sent_to y) (own y)) (sym e) away)
          (λ ne. fits_like refl (ports i ne) (sent i ne) (left i ne) (far_link w links v i at))
          (cases_eq i j))
