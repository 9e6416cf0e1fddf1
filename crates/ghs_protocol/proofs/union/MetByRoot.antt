-- The root goes out over its best link, where the far end has connected to this fragment: the two merge.
use Rattle.std.proofs.Common.{◌≡◌, ◌≢◌, ℕ, Some, None, List, [], ◌∷◌, ◌++◌, refl, sym, ◌∙◌}
use Rattle.ghs_graph.specs.declared.key.Key.{Key}
use Rattle.ghs_node.specs.declared.mark.Mark.TheVariants.{Branch}
use Rattle.ghs_node.specs.declared.message.Phase.TheVariants.{Found}
use Rattle.ghs_node.specs.declared.message.Message.{Message}
use Rattle.ghs_node.specs.declared.message.Message.TheVariants.{Connect}
use Rattle.peer_network.specs.Network.{Network, port_at, At, far, far_port, InNetwork}
use Rattle.peer_network.specs.Updates.{put}
use Rattle.ghs_protocol.proofs.clauses.Scene.{Scene, End, end, acts, far_end}
use Rattle.ghs_protocol.proofs.clauses.Changes.{left_tree, seen_beyond, sent_out}
use Rattle.ghs_protocol.proofs.clauses.Whole.{Invariant}
use Rattle.ghs_protocol.proofs.clauses.Wiring.{Ground}
use Rattle.ghs_protocol.proofs.clauses.Uniting.{SendsRoot, meet}
use Rattle.peer_network.proofs.lemmas.Updates.{put_same, put_other}
use Rattle.ghs_protocol.proofs.search.ReportGone.{debt_up}
use Rattle.ghs_protocol.proofs.root.AtRoot.{AtRoot, at_root}
use Rattle.ghs_protocol.proofs.root.OldLink.{call_append}
use Rattle.ghs_protocol.proofs.root.Sent.{near_aside, far_aside, node, quiet_still, counts}
use Rattle.ghs_protocol.proofs.root.Inward.{at_best, best_apart, leads_to, old_roots}
use Rattle.ghs_protocol.proofs.root.Outward.{leads_out}
use Rattle.ghs_protocol.proofs.union.Met.{Meets, meets}
use Rattle.ghs_protocol.proofs.rows.Link.{connect_comes}

module _ (g : Network) (ground : Ground g) (u : ℕ) (u_is : InNetwork g u) (j : ℕ) (at : At g u j) (w : Scene) (holds : Invariant g w)
    (ms : List Message)
    (root : AtRoot g w u j ms) (b : ℕ) (k : Key) (best : (w.at u).head.best ≡ Some (b, k)) (mark : (w.at u).mark b ≢ Branch)
    (mark' : (w.at (far g u b)).mark (far_port g u b) ≡ Branch) where
  atb : At g u b
  atb = at_best g ground.wired u u_is j at w holds ms root b k best

  apart : b ≢ j
  apart = best_apart g ground.wired u u_is j at w holds ms root b k best

  found : (w.at u).head.phase ≡ Found
  found = root.quiet.found u u_is refl

  idle : (w.at u).head.probe ≡ None
  idle = ((holds.nodes u u_is).idle (λ e. cc (e, found))).0

  abbrev sender : End
  sender = record { port = b; key = (port_at g u b).key; mark = put (w.at u).mark b Branch b; is = sent_out (w.at u) b; seen = w.seen u b }

  abbrev receiver : End
  receiver = record (far_end g w u b) {
    seen = record (seen_beyond g w u b) { tree = (seen_beyond g w u b).tree ++ Connect (w.at u).head.level ∷ [] };
  }

  owed : Meets g ground.wired u u_is b w (w.at u).head (left_tree w u j ms)
  owed = record {
    node =
        node g ground.wired u u_is j at w holds ms root b atb apart (put (w.at u).mark b Branch) (put_same (w.at u).mark b Branch)
        (λ i ne. put_other (w.at u).mark b i Branch ne)
        (Connect (w.at u).head.level) (λ q n. call_append (Connect (w.at u).head.level) refl q.tree ∙ n);
    found = found;
    name = refl;
    probe = idle;
    probe' = idle;
    same_level = refl;
    top = root.top;
    least = (leads_out g ground.wired u u_is j at w holds ms root b k best mark).higher;
    unmarked = mark;
    marked = mark';
    own_same = put_other (w.seen u) j b (record (w.seen u j) { tree = ms }) apart;
    near =
        near_aside g ground.wired u u_is j at w holds ms root b atb apart (put (w.at u).mark b Branch) (put_same (w.at u).mark b Branch)
        (λ i ne. put_other (w.at u).mark b i Branch ne)
        (Connect (w.at u).head.level) (λ q n. call_append (Connect (w.at u).head.level) refl q.tree ∙ n);
    away =
        far_aside g ground.wired u u_is j at w holds ms root b atb apart (put (w.at u).mark b Branch) (put_same (w.at u).mark b Branch)
        (λ i ne. put_other (w.at u).mark b i Branch ne)
        (Connect (w.at u).head.level) (λ q n. call_append (Connect (w.at u).head.level) refl q.tree ∙ n);
    quiet =
        quiet_still g ground.wired u u_is j at w holds ms root b atb apart (put (w.at u).mark b Branch) (put_same (w.at u).mark b Branch)
        (λ i ne. put_other (w.at u).mark b i Branch ne)
        (Connect (w.at u).head.level) (λ q n. call_append (Connect (w.at u).head.level) refl q.tree ∙ n) (w.at u).fragment root.quiet;
    old = old_roots g ground.wired u u_is j at w holds ms root b k best;
    led = leads_to g ground.wired u u_is j at w holds ms root b k best;
    counted =
        counts g ground.wired u u_is j at w holds ms root b atb apart (put (w.at u).mark b Branch) (put_same (w.at u).mark b Branch)
        (λ i ne. put_other (w.at u).mark b i Branch ne)
        (Connect (w.at u).head.level) (λ q n. call_append (Connect (w.at u).head.level) refl q.tree ∙ n)
        (let came = connect_comes g ground.wired w holds u b atb mark' mark in
        debt_up receiver sender came.up ∙ sym (debt_up (far_end g w u b) (end g w u b) came.up));
  }

-- a step: the root goes out and meets the far end
pub connects_meeting :
    (g : Network) (ground : Ground g) (u : ℕ) (u_is : InNetwork g u) (w : Scene) (holds : Invariant g w) (j : ℕ) (at : At g u j)
    (ms : List Message) (b : ℕ) (k : Key) →
    SendsRoot w u j ms → (w.at u).head.best ≡ Some (b, k) → (w.at u).mark b ≢ Branch → (w.at (far g u b)).mark (far_port g u b) ≡ Branch →
    Invariant g (meet g u b (acts g u (sent_out (w.at u) b) (left_tree w u j ms) ((b, Connect (w.at u).head.level) ∷ []) w))
connects_meeting g ground u u_is w holds j at ms b k calls best mark mark' =
    let root = at_root g ground.wired u u_is j at w holds ms calls in
    meets g ground u u_is b (atb g ground u u_is j at w holds ms root b k best mark mark') w holds (w.at u).head (left_tree w u j ms)
    (owed g ground u u_is j at w holds ms root b k best mark mark')
