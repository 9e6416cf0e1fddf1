-- What a draft has of its node's ports.
use Rattle.std.proofs.Common.{◌≡◌, ℕ, ◌<◌, ◌≤◌, Option, Some, None, List, length, get_or, refl, sym, ◌∙◌, arith, length-set, zero-le, true, false}
use Rattle.std.proofs.lemmas.List.{get_or_past}
use Rattle.boruvka_node.specs.declared.change.Entry.{Entry}
use Rattle.boruvka_node.specs.declared.draft.Draft.{Draft}
use Rattle.boruvka_node.specs.declared.port_state.PortState.{PortState}
use Rattle.boruvka_node.specs.State.{State, degree, least_basic, missing, no_port, port_at}
use Rattle.boruvka_node.specs.Entering.{entered_port, with_entry, with_port}
use Rattle.boruvka_node.specs.Draft.{drafted}
use Rattle.boruvka_node.specs.Counters.{is_basic_at}
use Rattle.boruvka_node.proofs.lemmas.Entered.{length_entered, get_entered}
use Rattle.boruvka_node.proofs.LeastBasic.{least_some, least_none}

length-with_port : (ps : List PortState) (c : Option (ℕ × PortState)) → length (with_port ps c) ≡ length ps
length-with_port ps None = refl
length-with_port ps (Some x) = length-set ps x.0 x.1

length-with_entry : (ps : List PortState) (o : Option Entry) → length (with_entry ps o) ≡ length ps
length-with_entry ps None = refl
length-with_entry ps (Some e) = length_entered e 0 ps

module _ (n : State) (d : Draft) where
  pub length_drafted : length (drafted n d).ports ≡ degree n
  length_drafted = length-with_entry (with_port n.ports d.port) d.entry ∙ length-with_port n.ports d.port

  -- a port of a node that has entered, by the port before
  pub entered_lookup : (e : Entry) (p : ℕ) → d.entry ≡ Some e → p < degree n
      → port_at (drafted n d) p ≡ entered_port e p (get_or (with_port n.ports d.port) p no_port)
  entered_lookup e p s lt =
      let l = length-with_port n.ports d.port in
      rw s (get_entered e (with_port n.ports d.port) p (omega (arith, l, lt)))

  -- what is no port is none before and after
  pub past_lookup : (p : ℕ) → degree n ≤ p → port_at (drafted n d) p ≡ get_or (with_port n.ports d.port) p no_port
  past_lookup p le =
      let l = length-with_port n.ports d.port in
      let m = length_drafted in
      get_or_past (drafted n d).ports p no_port (omega (arith, m, le))
      ∙ sym (get_or_past (with_port n.ports d.port) p no_port (omega (arith, l, le)))

  pub plain_lookup : (p : ℕ) → d.entry ≡ None → port_at (drafted n d) p ≡ get_or (with_port n.ports d.port) p no_port
  plain_lookup p s = rw s refl

  pub plain_ports : d.entry ≡ None → (drafted n d).ports ≡ with_port n.ports d.port
  plain_ports s = rw s refl

  -- from how many ports the search wants for something, of a node that hasn't entered
  pub plain_missing : d.entry ≡ None → d.head.level ≡ n.head.level → missing (record n { ports = with_port n.ports d.port }) ≡ missing (drafted n d)
  plain_missing s l = rw (s, l) refl

  -- the first Basic port is the least
  pub basic_there : (p : ℕ) → p < degree n → is_basic_at (drafted n d).ports p ≡ true → ((k : ℕ) → k < p → is_basic_at (drafted n d).ports k ≡ false)
      → least_basic (drafted n d).ports ≡ Some p
  basic_there p lt here before =
      let l = length_drafted in
      least_some (drafted n d).ports p (record { from = zero-le; within = omega (arith, l, lt); before = λ k lo hi. before k hi; here = λ h. here })
      (omega (arith, l, lt))

  pub basic_nowhere : (p : ℕ) → p ≡ degree n → ((k : ℕ) → k < p → is_basic_at (drafted n d).ports k ≡ false)
      → least_basic (drafted n d).ports ≡ None
  basic_nowhere p e before =
      let l = length_drafted in
      least_none (drafted n d).ports p
      (record { from = zero-le; within = omega (arith, l, e); before = λ k lo hi. before k hi; here = λ h. absurd (omega (arith, l, e, h)) })
      (omega (arith, l, e))
