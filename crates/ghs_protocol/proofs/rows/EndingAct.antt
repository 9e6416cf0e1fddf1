-- How a reaction of the search ends, as an act of its own: the next Test, the Report, or nothing.
use Rattle.std.proofs.Common.{◌≡◌, ℕ, Option, Some, None, [], ◌∷◌, length, refl, sym, ◌∙◌, ap, subst}
use Rattle.ghs_graph.specs.declared.key.Key.{Key}
use Rattle.ghs_node.specs.declared.mark.Mark.TheVariants.{Basic}
use Rattle.ghs_node.specs.declared.message.Phase.TheVariants.{Find}
use Rattle.ghs_node.specs.declared.message.Message.TheVariants.{Report}
use Rattle.ghs_node.specs.Words.{best_key}
use Rattle.ghs_node.specs.Reaction.{Ending, Probing, Reporting, Waiting, phase_after, probe_after, last_sends, name_of, core_port}
use Rattle.peer_network.specs.Network.{Network, At, InNetwork}
use Rattle.peer_network.proofs.lemmas.Wired.{IsWired}
use Rattle.peer_network.specs.Updates.{put}
use Rattle.ghs_protocol.proofs.clauses.Scene.{Seen, Member, Scene, acts}
use Rattle.ghs_protocol.proofs.clauses.Nodes.{NodeFits, Searching}
use Rattle.ghs_protocol.proofs.clauses.Whole.{Invariant}
use Rattle.ghs_protocol.proofs.acts.Reactions.{put_again}
use Rattle.ghs_protocol.proofs.tests.Steps.{scans}
use Rattle.ghs_protocol.proofs.search.Close as closing

-- the ending that a node in this state comes to
pub data EndsBy (m : Member) : Ending → Type 0 where
  Tests_next : (p : ℕ) → m.head.probe ≡ None → m.mark p ≡ Basic → EndsBy m (Probing p)
  Reports_now : ◌≡◌ {A = ℕ} m.head.find_count 0 → m.head.probe ≡ None → EndsBy m Reporting
  Waits_on : EndsBy m Waiting

-- the member after the ending
abbrev pub ended : Member → Ending → Member
ended m e = record m { head = record m.head { phase = phase_after m.head.phase e; probe = probe_after m.head.probe e } }

module _ (g : Network) (wired : IsWired g) (v : ℕ) (v_is : InNetwork g v) where
  -- who searches has a name, and a way to the core
  pub named : (m : Member) → NodeFits (length (g.ports v)) m → m.head.phase ≡ Find → m.head.name ≡ Some (name_of m.head)
  named m fits finds = go m.head.name refl
    where
      go : (o : Option Key) → m.head.name ≡ o → m.head.name ≡ Some (name_of m.head)
      go None e =
          let s = fits.searching finds in
          let z : m.head.in_branch ≡ None = fits.naming.in_branch (fits.naming.level e) in
          absurd (let y : m.head.in_branch ≡ Some s.port = s.in_branch in cc)
      go (Some k) e = e ∙ ap (λ o. Some (name_of (record m.head { name = o }))) (sym e)

  -- the ending alone
  pub ends_alone :
      (w : Scene) → Invariant g w → (e : Ending) → (w.at v).head.phase ≡ Find → EndsBy (w.at v) e →
      Invariant g (acts g v (ended (w.at v) e) (w.seen v) (last_sends (w.at v).head e) w)
  ends_alone w holds _ finds (Tests_next p none basic) =
      subst (λ (q : ℕ → Seen). Invariant g (acts g v (ended (w.at v) (Probing p)) q (last_sends (w.at v).head (Probing p)) w))
      (put_again (w.seen v) p)
      (scans g wired v v_is p at w holds (name_of (w.at v).head) (named (w.at v) (holds.nodes v v_is) finds) finds none basic)
    where
      at : At g v p
      at = record { some = v_is.some; node = v_is.node; port = (holds.nodes v v_is).own_ports.mark p (λ z. cc (z, basic)) }
  ends_alone w holds _ finds (Reports_now at_zero none) =
      subst (λ (q : ℕ → Seen). Invariant g (acts g v (ended (w.at v) Reporting) q (last_sends (w.at v).head Reporting) w))
      (put_again (w.seen v) s.port)
      (subst (λ b.
      Invariant g
      (acts g v (ended (w.at v) Reporting) (put (w.seen v) s.port (w.seen v s.port)) ((b, Report (best_key (w.at v).head.best)) ∷ []) w))
      (sym way)
      (closing.closes g wired v v_is s.port at w holds finds s.in_branch none at_zero))
    where
      s : Searching (w.at v)
      s = (holds.nodes v v_is).searching finds

      way : core_port (w.at v).head ≡ s.port
      way = ap (λ o. core_port (record (w.at v).head { in_branch = o })) s.in_branch

      at : At g v s.port
      at = record { some = v_is.some; node = v_is.node; port = (holds.nodes v v_is).own_ports.in_branch s.port s.in_branch }
  ends_alone w holds _ finds Waits_on = subst (Invariant g) (λ i. record { at = sym (put_again w.at v) i; seen = sym (put_again w.seen v) i }) holds
