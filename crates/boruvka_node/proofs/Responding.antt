-- A message at a node that sleeps, or is awake.
use Rattle.std.proofs.Common.{◌≡◌, ℕ, Bool, true, false, Some, None, cond, refl, sym, ◌==◌, ◌&&◌, if◌then◌else◌}
use Rattle.ghs_graph.specs.declared.key.Key.{Key}
use Rattle.ghs_node.specs.Words.{is_name}
use Rattle.boruvka_node.specs.declared.draft.Draft.{Draft}
use Rattle.boruvka_node.specs.declared.mark.Mark.{Mark}
use Rattle.boruvka_node.specs.declared.mark.Mark.TheVariants.{Inside}
use Rattle.boruvka_node.specs.declared.message.Message.{Message}
use Rattle.boruvka_node.specs.declared.port_state.PortState.{PortState}
use Rattle.boruvka_node.specs.declared.message.Message.TheVariants.{Connect, Initiate, Name, Report, ChangeRoot}
use Rattle.boruvka_node.specs.Words.{is_basic, is_sleeping}
use Rattle.boruvka_node.specs.State.{State, port_at}
use Rattle.boruvka_node.specs.Reaction.{silent, wakes, connect, name, awake, asleep, delivered, heard}
use Rattle.boruvka_node.specs.Draft.{drafted, goes_on, Gives, begun}
use Rattle.boruvka_node.proofs.Drafts.{gives, gives_then, says_nothing}

module _ (n : State) (j : ℕ) (d e : Draft) where
  began_asleep : (m : Message) → Gives n (wakes n) d → Gives n (goes_on d (awake (drafted n d) j m)) e → Gives n (asleep n j m) e
  began_asleep (Connect l) g h = gives_then n d e (wakes n) (λ x. connect x j l) g h
  began_asleep (Name l f) g h = gives_then n d e (wakes n) (λ x. name x j l f) g h
  began_asleep (Initiate l f) g h = tt
  began_asleep (Report w) g h = tt
  began_asleep ChangeRoot g h = tt

  began_awake : (m : Message) → Gives n (silent n) d → Gives n (goes_on d (awake (drafted n d) j m)) e → Gives n (awake n j m) e
  began_awake m g h = gives n (awake n j m) _ e (sym (says_nothing (awake n j m))) (gives_then n d e (silent n) (λ x. awake x j m) g h)

  began_by : (b : Bool) (m : Message) → Gives n (cond b (wakes n) (silent n)) d → Gives n (goes_on d (awake (drafted n d) j m)) e
      → Gives n (cond b (asleep n j m) (awake n j m)) e
  began_by true m g h = began_asleep m g h
  began_by false m g h = began_awake m g h

  -- the response to a message, behind a reaction that has begun
  pub began : (m : Message) → Gives n (begun n) d → Gives n (goes_on d (awake (drafted n d) j m)) e → Gives n (delivered n j m) e
  began m g h = began_by (is_sleeping n.head.phase) m g h

-- a port that has heard, in a draft that has changed nothing at the ports
pub heard_draft : (n : State) (d : Draft) (j l : ℕ) (f : Key) (x : PortState) (m : Mark) → d.port ≡ None → d.entry ≡ None → x ≡ port_at n j
    → m ≡ (if ((l == d.head.level) && is_name d.head.name f) && is_basic x.mark then Inside else x.mark)
    → heard (drafted n d) j l f ≡ drafted n (record d { port = Some (j, record x { level = l; name = Some f; mark = m }) })
heard_draft n d j l f x m port entry state mark = rw (port, entry, mark, state) refl
