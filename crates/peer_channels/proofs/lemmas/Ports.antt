-- Queues of the same ports, and where the links of a graph lead.
use Rattle.std.proofs.Common.{◌≡◌, ℕ, zero, suc, ◌<◌, ◌≤◌, [], length, refl, ◌∙◌, ⊎_elim, arith}
use Rattle.std.proofs.lemmas.Bool.{cases_lt}
use Rattle.std.proofs.lemmas.List.{get_or_past}
use Rattle.std.proofs.lemmas.Option.{slice_get_within, slice_get-get_or}
use Rattle.ghs_graph.specs.Graph.{Shape, IsGraph}
use Rattle.ghs_graph.specs.Ports.{ports_of, HasPort, no_port}
use Rattle.ghs_graph.proofs.lemmas.Ports.{length-ports_of, degree-le-length, ports_end_elsewhere, ports_lead_back}
use Rattle.peer_channels.specs.Channels.{ChannelsState, HasQueue, IsPort, IsFor, SamePorts, first_queue, queues_of, port_of, destination_of}

-- a node has few ports

pub ports_few : (g : Shape) → IsGraph g → (v : ℕ) → length (ports_of g.keys v) ≤ 8388608
ports_few g k v =
    let a = length-ports_of g.keys v in
    let b = degree-le-length g.keys v in
    let c = k.links in
    omega (arith, a, b, c)

-- the far end of a port is a port
pub far_port_is : (g : Shape) → IsGraph g → (v i : ℕ) → i < length (ports_of g.keys v) → IsPort g (port_of g v i).far (port_of g v i).far_port
far_port_is g graph v i lt =
    let here : HasPort g.keys v i (port_of g v i) = slice_get-get_or (ports_of g.keys v) i no_port lt in
    let ends = ports_end_elsewhere g graph v i (port_of g v i) here in
    let back = ports_lead_back g graph v i (port_of g v i) here in
    record { some = ends.0; node = ends.1; port = slice_get_within _ _ _ back }

module _ {M : Type 0} where
  pub same_then : (a b c : ChannelsState M) → SamePorts a b → SamePorts b c → SamePorts a c
  same_then a b c s t = record {
    count = t.count ∙ s.count;
    queues = λ v p. (λ h. (t.queues v p).0 ((s.queues v p).0 h), λ h. (s.queues v p).1 ((t.queues v p).1 h));
    leads = t.leads ∙ s.leads;
  }

  pub same_alike : (a : ChannelsState M) → SamePorts a a
  same_alike a = record { count = λ i. length a.queues; queues = λ v p. (λ h. h, λ h. h); leads = λ i. a.destinations }

  pub same_destination : (a b : ChannelsState M) → SamePorts a b → (v p : ℕ) → destination_of b v p ≡ destination_of a v p
  same_destination a b s v p = rw s.leads (λ i. destination_of a v p)

  pub same_for : (g : Shape) (a b : ChannelsState M) → SamePorts a b → IsFor g a → IsFor g b
  same_for g a b s f = record {
    graph = f.graph;
    count = s.count ∙ f.count;
    queues = λ v p. (λ h. (f.queues v p).0 ((s.queues v p).1 h), λ i. (s.queues v p).0 ((f.queues v p).1 i));
    leads = λ v p i. same_destination a b s v p ∙ f.leads v p i;
  }

  -- the same nodes have the same number of queues, and so these begin where they did
  same_many : (a b : ChannelsState M) → SamePorts a b → (v : ℕ) → length (queues_of b v) ≡ length (queues_of a v)
  same_many a b s v = ⊎_elim inside (λ past. let count = s.count in rw (get_or_past a.queues v [] past, get_or_past b.queues v [] (omega arith)) refl)
      (cases_lt v (length a.queues))
    where
      inside : v < length a.queues → length (queues_of b v) ≡ length (queues_of a v)
      inside lt =
          let count = s.count in
          ⊎_elim
          (λ (more : length (queues_of a v) < length (queues_of b v)).
          let h = (s.queues v (length (queues_of a v))).1 (record { node = omega arith; port = more }) in
          let port = h.port in
          absurd (omega arith))
          (λ le. ⊎_elim
          (λ (fewer : length (queues_of b v) < length (queues_of a v)).
          let h = (s.queues v (length (queues_of b v))).0 (record { node = lt; port = fewer }) in
          let port = h.port in
          absurd (omega arith))
          (λ ge. omega (arith, le, ge))
          (cases_lt (length (queues_of b v)) (length (queues_of a v))))
          (cases_lt (length (queues_of a v)) (length (queues_of b v)))

  pub same_first : (a b : ChannelsState M) → SamePorts a b → (v : ℕ) → first_queue b v ≡ first_queue a v
  same_first a b s zero = refl
  same_first a b s (suc v) = let before = same_first a b s v in let here = same_many a b s v in omega (arith, before, here)

  -- a node of a graph has a queue for each port, and the number 0 has none
  pub queues_are_ports : (g : Shape) (l : ChannelsState M) → IsFor g l → (v : ℕ) → 1 ≤ v → v ≤ g.nodes → length (queues_of l v) ≡ length
      (ports_of g.keys v)
  queues_are_ports g l for v low high =
      let count = for.count in
      ⊎_elim
      (λ (fewer : length (queues_of l v) < length (ports_of g.keys v)).
      let h = (for.queues v (length (queues_of l v))).1 (record { some = low; node = high; port = fewer }) in
      let port = h.port in
      absurd (omega arith))
      (λ le. ⊎_elim
      (λ (more : length (ports_of g.keys v) < length (queues_of l v)).
      let i = (for.queues v (length (ports_of g.keys v))).0 (record { node = omega arith; port = more }) in
      let port = i.port in
      absurd (omega arith))
      (λ ge. omega (arith, le, ge))
      (cases_lt (length (ports_of g.keys v)) (length (queues_of l v))))
      (cases_lt (length (queues_of l v)) (length (ports_of g.keys v)))

  pub none_of_zero : (g : Shape) (l : ChannelsState M) → IsFor g l → length (queues_of l 0) ≡ 0
  none_of_zero g l for =
      let count = for.count in
      ⊎_elim
      (λ (some : 0 < length (queues_of l 0)).
      let i = (for.queues 0 0).0 (record { node = omega arith; port = some }) in
      let low = i.some in
      absurd (omega arith))
      (λ le. omega (arith, le))
      (cases_lt 0 (length (queues_of l 0)))

  -- and has a queue for what goes out on it
  pub far_queue : (g : Shape) (l : ChannelsState M) →
      IsFor g l →
      (v i : ℕ) → i < length (ports_of g.keys v) →
      HasQueue l (port_of g v i).far (port_of g v i).far_port
  far_queue g l for v i lt = (for.queues (port_of g v i).far (port_of g v i).far_port).1 (far_port_is g for.graph v i lt)
