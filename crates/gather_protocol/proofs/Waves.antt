-- What every net of a run keeps of its waves, and that an event keeps it, if it keeps it at its own node.
use Rattle.std.proofs.Common.{◌≡◌, ◌≢◌, ℕ, suc, ◌+◌, ◌*◌, ◌<◌, ◌≤◌, Bool, true, Option, Some, None, List, [], ◌∷◌, ◌++◌, length, map, get_or, cond, sym, ◌∙◌, ap, subst, ⊎_elim, arith}
use Rattle.std.specs.Prelude.{filter}
use Rattle.std.proofs.Math.Path.{fun_ext}
use Rattle.std.proofs.lemmas.Bool.{cases_eq}
use Rattle.ghs_graph.specs.declared.key.Key.{Key}
use Rattle.ghs_graph.specs.declared.port.Port.{Port}
use Rattle.peer_network.specs.Network.{Network, InNetwork, At}
use Rattle.peer_network.specs.Sums.{sum_below, sum_over_nodes}
use Rattle.peer_network.proofs.lemmas.Sums.{sum_one, node_before}
use Rattle.peer_network.proofs.lemmas.Updates.{put_same, put_other, put_alike}
use Rattle.peer_network.proofs.lemmas.Wired.{IsWired}
use Rattle.peer_machine.specs.Rules.{Outcome}
use Rattle.peer_machine.specs.Net.{Net, put, are_on_ports, reacted}
use Rattle.peer_machine.proofs.lemmas.Sends.{node_here, node_there, sent_now}
use Rattle.gather_node.specs.declared.message.Message.{Message}
use Rattle.gather_node.specs.declared.message.Message.TheVariants.{Explore, Back, Tree}
use Rattle.gather_node.specs.Gather.{gather}
use Rattle.gather_node.specs.State.{State, links_to}
use Rattle.gather_protocol.proofs.Accounts.{Account, on_port, still}
use Rattle.gather_protocol.proofs.Led.{Led}
use Rattle.gather_protocol.proofs.Pays.{owes, plain}
use Rattle.gather_protocol.proofs.Sends.{is_of, sent_on}

-- what a node has been through, by wave: whether it joined, over which port and when; how many answers it awaits there, or awaited when it
-- left; what had come with answers; and which messages it has heard at each port
pub record Past : Type 0 where
  pub joined : ℕ → Bool
  pub parent : ℕ → Option ℕ
  pub rank : ℕ → ℕ
  pub awaits : ℕ → ℕ
  pub brought : ℕ → List (Option (List Key))
  pub heard : ℕ → ℕ → List Message

abbrev pub keys_at : Network → ℕ → List Key
keys_at g v = map (λ (p : Port). p.key) (g.ports v)

-- all links that node v knows by what was brought
abbrev pub knows : Network → ℕ → List (Option (List Key)) → List Key
knows g v bs = keys_at g v ++ links_to (length (keys_at g v)) bs

-- what it has sent over port i in wave x
abbrev pub sent_of : Network → ℕ → Past → ℕ → ℕ → List Message
sent_of g v s x i = sent_on (s.joined x) x (s.parent x) (s.awaits x) (knows g v (s.brought x)) i

-- the links that came with an answer
abbrev pub list_in : List Message → Option (List Key)
list_in [] = None
list_in (Explore x ∷ ms) = list_in ms
list_in (Back x ks ∷ ms) = Some ks
list_in (Tree ks ∷ ms) = list_in ms

-- the node's own wave is x, or a smaller one
abbrev pub Within : State → ℕ → Type 0
Within n x = (y : ℕ) × (n.head.wave ≡ Some y) × (y ≤ x)

pub record Fits (g : Network) (v : ℕ) (n : State) : Type 0 where
  pub number : n.number ≡ v
  pub keys : n.keys ≡ keys_at g v
  pub places : length n.brought ≡ length (g.ports v)
  pub parent : (q : ℕ) → n.head.parent ≡ Some q → q < length (g.ports v)

-- of its own wave the past says how the node stands
pub record Stands (s : Past) (n : State) (x : ℕ) : Type 0 where
  pub joined : s.joined x ≡ true
  pub parent : s.parent x ≡ n.head.parent
  pub awaits : s.awaits x ≡ n.head.awaits
  pub brought : s.brought x ≡ n.brought

pub record AtNode (g : Network) (v : ℕ) (s : Past) (n : State) : Type 0 where
  pub fits : Fits g v n
  pub least : (x : ℕ) → s.joined x ≡ true → Within n x
  pub now : (x : ℕ) → n.head.wave ≡ Some x → Stands s n x
  pub late : (x q : ℕ) → At g v q → s.heard x q ≢ [] → Within n x
  pub rest : (x : ℕ) → InNetwork g v → n.head.wave ≡ Some x →
      n.head.awaits + sum_below (length (g.ports v)) (λ q. length (s.heard x q)) ≡ length (g.ports v)
  pub full : (x q : ℕ) → At g v q → s.joined x ≡ true → s.awaits x ≡ 0 → s.heard x q ≢ []
  pub came : (x q : ℕ) → At g v q → n.head.wave ≡ Some x → get_or n.brought q None ≡ list_in (s.heard x q)
  pub idle : n.head.wave ≡ None → n.head.parent ≡ None

-- how many waves the node has joined
abbrev pub joins_of : Network → Past → ℕ
joins_of g s = sum_below g.count (λ k. cond (s.joined (suc k)) 1 0)

-- so many messages it may have sent in them
abbrev pub paid : Network → ℕ → Past → ℕ
paid g v s = joins_of g s * length (g.ports v)

abbrev pub Spends : Network → Net State Message → (ℕ → Past) → Type 0
Spends g w past =
    w.sent 0 + w.sent 1 + sum_over_nodes g (λ v. owes (w.node v)) ≤ sum_over_nodes g (λ v. paid g v (past v))

abbrev pub joined_in : (ℕ → Past) → ℕ → ℕ → Bool
joined_in past v = (past v).joined

abbrev pub parent_in : (ℕ → Past) → ℕ → ℕ → Option ℕ
parent_in past v = (past v).parent

abbrev pub rank_in : (ℕ → Past) → ℕ → ℕ → ℕ
rank_in past v = (past v).rank

-- whoever has begun a wave was allowed to
abbrev pub AreAllowed : (ℕ → Bool) → (ℕ → Past) → Type 0
AreAllowed may past = (x : ℕ) → (past x).joined x ≡ true → may x ≡ true

abbrev pub AreLed : Network → (ℕ → Past) → ℕ → Type 0
AreLed g past clock = Led g (joined_in past) (parent_in past) (rank_in past) clock

abbrev pub AllAccounts : Network → Net State Message → (ℕ → Past) → Type 0
AllAccounts g w past = (x : ℕ) → Account g w (is_of x) (λ u i. sent_of g u (past u) x i) (λ u q. (past u).heard x q)

-- where only some nodes may wake by themselves
pub record Waves (g : Network) (may : ℕ → Bool) (w : Net State Message) : Type 0 where
  pub past : ℕ → Past
  pub clock : ℕ
  pub led : AreLed g past clock
  pub nodes : (v : ℕ) → AtNode g v (past v) (w.node v)
  pub over : AllAccounts g w past
  pub spends : Spends g w past
  pub allowed : AreAllowed may past

-- a node whose past changes, but for what it joined
pub same_led : (g : Network) (past : ℕ → Past) (clock v : ℕ) (s : Past) → s.joined ≡ (past v).joined → s.parent ≡ (past v).parent →
    s.rank ≡ (past v).rank → AreLed g past clock → AreLed g (put past v s) clock
same_led g past clock v s j p r l =
    let a : joined_in past ≡ joined_in (put past v s) = fun_ext (λ u. sym (put_alike (λ (x : Past). x.joined) past v s j u)) in
    let b : parent_in past ≡ parent_in (put past v s) = fun_ext (λ u. sym (put_alike (λ (x : Past). x.parent) past v s p u)) in
    let c : rank_in past ≡ rank_in (put past v s) = fun_ext (λ u. sym (put_alike (λ (x : Past). x.rank) past v s r u)) in
    subst (λ (k : ℕ → ℕ → ℕ). Led g (joined_in (put past v s)) (parent_in (put past v s)) k clock) c
    (subst (λ (k : ℕ → ℕ → Option ℕ). Led g (joined_in (put past v s)) k (rank_in past) clock) b
    (subst (λ (k : ℕ → ℕ → Bool). Led g k (parent_in past) (rank_in past) clock) a l))

-- an event of node v, that turns the net w1 into the next, and the past of v into s
module _ (g : Network) (may : ℕ → Bool) (wired : IsWired g) (w1 : Net State Message) (past : ℕ → Past) (v : ℕ) (net : InNetwork g v)
    (o : Outcome State Message) (on : are_on_ports gather g v o.sends ≡ true) (s : Past) (clock : ℕ) where
  spends_on : Spends g w1 past → plain o.sends + owes o.state + paid g v (past v) ≤ owes (w1.node v) + paid g v s →
      Spends g (reacted gather g v o w1) (put past v s)
  spends_on spent pays = let j = node_before v net.some in go j.0 j.1
    where
      go : (k : ℕ) → v ≡ suc k → Spends g (reacted gather g v o w1) (put past v s)
      go k e =
          let lt : k < g.count = (let h = net.node in omega (arith, e, h)) in
          let away = λ (x : ℕ) (ne : x ≢ k) (z : suc x ≡ v). ne (omega (arith, z, e)) in
          let a =
          sum_one g.count k (λ x. owes (w1.node (suc x))) (λ x. owes ((reacted gather g v o w1).node (suc x))) lt
          (λ x ne. ap owes (sym (node_there gather g v o w1 (suc x) (away x ne)))) in
          let b =
          sum_one g.count k (λ x. paid g (suc x) (past (suc x))) (λ x. paid g (suc x) (put past v s (suc x))) lt
          (λ x ne. ap (paid g (suc x)) (sym (put_other past v (suc x) s (away x ne)))) in
          let a0 : owes (w1.node v) ≡ owes (w1.node (suc k)) = ap (λ z. owes (w1.node z)) e in
          let a1 : owes ((reacted gather g v o w1).node (suc k)) ≡ owes o.state =
          ap (λ z. owes ((reacted gather g v o w1).node z)) (sym e) ∙ ap owes (node_here gather g v o w1) in
          let b0 : paid g v (past v) ≡ paid g (suc k) (past (suc k)) = ap (λ z. paid g z (past z)) e in
          let b1 : paid g (suc k) (put past v s (suc k)) ≡ paid g v s =
          ap (λ z. paid g z (put past v s z)) (sym e) ∙ ap (paid g v) (put_same past v s) in
          let s0 = sent_now gather g v o w1 0 in
          let s1 = sent_now gather g v o w1 1 in
          omega (arith, a, b, a0, a1, b0, b1, s0, s1, spent, pays)

  pub turned : AreLed g (put past v s) clock → ((u : ℕ) → u ≢ v → AtNode g u (past u) (w1.node u)) → AtNode g v s o.state →
      ((x : ℕ) → Account g w1 (is_of x) (λ u i. sent_of g u (past u) x i) (λ u q. (put past v s u).heard x q)) →
      ((x i : ℕ) → At g v i → sent_of g v s x i ≡ sent_of g v (past v) x i ++ filter (is_of x) (on_port i o.sends)) →
      Spends g w1 past → plain o.sends + owes o.state + paid g v (past v) ≤ owes (w1.node v) + paid g v s →
      (s.joined v ≡ true → may v ≡ true) → AreAllowed may past → Waves g may (reacted gather g v o w1)
  turned led others here over sends spent pays allow before = record {
    past = put past v s;
    clock = clock;
    led = led;
    nodes = λ u. ⊎_elim
        (λ (e : u ≡ v).
        subst (λ a. AtNode g a (put past v s a) ((reacted gather g v o w1).node a)) (sym e)
        (subst (λ (n : State). AtNode g v (put past v s v) n) (sym (node_here gather g v o w1))
        (subst (λ (p : Past). AtNode g v p o.state) (sym (put_same past v s)) here)))
        (λ ne.
        subst (λ (n : State). AtNode g u (put past v s u) n) (sym (node_there gather g v o w1 u ne))
        (subst (λ (p : Past). AtNode g u p (w1.node u)) (sym (put_other past v u s ne)) (others u ne)))
        (cases_eq u v);
    over = λ x.
        still g wired v net.some net.node o w1 on (is_of x) (λ u i. sent_of g u (past u) x i) (λ u i. sent_of g u (put past v s u) x i)
        (λ u q. (put past v s u).heard x q)
        (λ u i ne. ap (λ (p : Past). sent_of g u p x i) (put_other past v u s ne))
        (λ i at. ap (λ (p : Past). sent_of g v p x i) (put_same past v s) ∙ sends x i at) (over x);
    spends = spends_on spent pays;
    allowed = λ x j. ⊎_elim
        (λ (e : x ≡ v).
        ap may e
        ∙ allow (ap (λ (p : Past). p.joined v) (sym (put_same past v s)) ∙ ap (λ z. (put past v s z).joined z) (sym e) ∙ j))
        (λ ne. before x (ap (λ (p : Past). p.joined x) (sym (put_other past v x s ne)) ∙ j)) (cases_eq x v);
  }
