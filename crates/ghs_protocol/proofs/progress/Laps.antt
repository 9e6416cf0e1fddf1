-- From each net of a run a lap can be made that takes from each queue once at most.
use Rattle.std.proofs.Common.{◌≡◌, ◌≢◌, ℕ, zero, suc, ◌<◌, ◌≤◌, ◌+◌, Some, List, [], ◌∷◌, ◌++◌, length, refl, sym, ◌∙◌, subst, subst₂, ⊎_elim, ◌⊎◌, inl, inr, arith, length-append}
use Rattle.std.specs.List.{All}
use Rattle.std.proofs.lemmas.Bool.{cases_eq}
use Rattle.std.proofs.lemmas.List.Elements.{All-nil, All-cons, All-append}
use Rattle.std.proofs.lemmas.Option.{same_Some}
use Rattle.ghs_graph.specs.Graph.{Shape, IsGraph}
use Rattle.ghs_node.specs.declared.message.Message.{Message}
use Rattle.peer_network.specs.declared.event.Event.{Event}
use Rattle.peer_network.specs.declared.event.Event.TheVariants.{Take}
use Rattle.peer_network.specs.Network.{Network, network_of, At}
use Rattle.peer_network.specs.Sums.{sum_below}
use Rattle.peer_network.proofs.lemmas.Graphs.{twice_links}
use Rattle.peer_network.proofs.lemmas.Updates.{one_place, put_at_miss}
use Rattle.ghs_protocol.specs.Net.{Net, happens, change}
use Rattle.ghs_protocol.specs.Run.{run}
use Rattle.ghs_protocol.specs.Laws.{IsNetOf}
use Rattle.ghs_protocol.specs.Living.{IsTake, Stands, Now, Soon}
use Rattle.ghs_protocol.specs.Steps.{Happens, Woke, Took, taken}
use Rattle.ghs_protocol.specs.Fairness.{LapsAre}
use Rattle.ghs_protocol.proofs.lemmas.Events.{happening, happens_so}
use Rattle.ghs_protocol.proofs.lemmas.Runs.{both_some, run_more}
use Rattle.ghs_protocol.proofs.progress.Finish.{later, can_take}
use Rattle.ghs_protocol.proofs.progress.Schedules.{Longer, sends_longer}
use Rattle.ghs_protocol.proofs.progress.SingleRounds.{stands_behind}

stands_before : {e : Event} {es : List Event} (fs : List Event) → Stands e es → Stands e (es ++ fs)
stands_before fs (Now {es = es}) = Now
stands_before fs (Soon s) = Soon (stands_before fs s)

longer_some : (q r : List Message) → Longer q r → q ≢ [] → r ≢ []
longer_some [] r l some e = some refl
longer_some (m ∷ q) r l some e = let z : m ∷ (q ++ l.0) ≡ [] = sym l.1 ∙ e in cc

-- an event takes from this queue, or leaves what waits there
leaves : (g : Network) (w x : Net) (e : Event) → Happens g w e x → (v p : ℕ) → (e ≡ Take v p) ⊎ (w.queue v p ≢ [] → x.queue v p ≢ [])
leaves g w _ _ (Woke u d lo hi s r) v p = inr (longer_some _ _ (sends_longer g u d.sends (change u d w) v p))
leaves g w _ _ (Took u q m ms d at e r) v p =
    ⊎_elim
    (λ z. inl (subst₂ (λ a b. Take u q ≡ Take a b) (sym z.0) (sym z.1) refl))
    (λ ne.
    inr (longer_some _ _
    (subst (λ l. Longer l ((taken g u q m ms d w).queue v p)) (put_at_miss w.queue u q v p _ ne) (sends_longer g u d.sends _ v p))))
    (one_place u q v p)

-- so does a run
leaves_all : (g : Network) (es : List Event) (w x : Net) → run g es w ≡ Some x → (v p : ℕ) → w.queue v p ≢ [] →
    Stands (Take v p) es ⊎ (x.queue v p ≢ [])
leaves_all g [] w x h v p some = inr (subst (λ y. y.queue v p ≢ []) (same_Some w x h) some)
leaves_all g (e ∷ es) w x h v p some =
    both_some (happens g w e) (λ y. run g es y) x h
    (λ y a b.
    ⊎_elim (λ z. inl (subst (λ k. Stands (Take v p) (k ∷ es)) (sym z) Now))
    (λ z. ⊎_elim (λ s. inl (Soon s)) (λ s. inr s) (leaves_all g es y x b v p (z some)))
    (leaves g w y e (happening g w y e a) v p))

module _ (g : Shape) (graph : IsGraph g) (w : Net) (n : IsNetOf g w) where
  -- a run of at most k Takes that takes from the queues of D in which a message waits
  record Made (D : ℕ → ℕ → Type 0) (k : ℕ) : Type 0 where
    made : List Event
    takes : All IsTake made
    few : length made ≤ k
    next : Net
    leads : run (network_of g) made w ≡ Some next
    is : IsNetOf g next
    has : (v p : ℕ) → At (network_of g) v p → D v p → w.queue v p ≢ [] → Stands (Take v p) made

  weaker : {D C : ℕ → ℕ → Type 0} {k l : ℕ} → ((v p : ℕ) → At (network_of g) v p → C v p → D v p) → k ≤ l → Made D k → Made C l
  weaker sub le z = record {
    made = z.made;
    takes = z.takes;
    few = let f = z.few in omega (arith, f, le);
    next = z.next;
    leads = z.leads;
    is = z.is;
    has = λ v p at c some. z.has v p at (sub v p at c) some;
  }

  -- one queue more
  one_more : {D : ℕ → ℕ → Type 0} {k : ℕ} (v p : ℕ) → At (network_of g) v p → Made D k → Made (λ u q. D u q ⊎ ((u ≡ v) × (q ≡ p))) (suc k)
  one_more {D} {k} v p at z = go (z.next.queue v p) refl
    where
      go : (q : List Message) → z.next.queue v p ≡ q → Made (λ u q. D u q ⊎ ((u ≡ v) × (q ≡ p))) (suc k)
      go [] e = record {
        made = z.made;
        takes = z.takes;
        few = let f = z.few in omega (arith, f);
        next = z.next;
        leads = z.leads;
        is = z.is;
        has = λ u q a c some. ⊎_elim (λ d. z.has u q a d some)
            (λ s.
            ⊎_elim (λ t. t) (λ left. absurd (left (subst₂ (λ x y. z.next.queue x y ≡ []) (sym s.0) (sym s.1) e)))
            (leaves_all (network_of g) z.made w z.next z.leads u q some))
            c;
      }
      go (m ∷ ms) e =
          let t = can_take g graph z.next z.is v p at m ms e in
          record {
            made = z.made ++ Take v p ∷ [];
            takes = All-append IsTake z.made (Take v p ∷ []) z.takes (All-cons IsTake (Take v p) [] tt (All-nil IsTake));
            few = let f = z.few in let l = length-append z.made (Take v p ∷ []) in omega (arith, f, l);
            next = t.0;
            leads = run_more (network_of g) z.made (Take v p) w z.next z.leads ∙ happens_so t.1;
            is = later g graph z.next t.0 (Take v p) z.is t.1;
            has = λ u q a c some. ⊎_elim (λ d. stands_before (Take v p ∷ []) (z.has u q a d some))
                (λ s. stands_behind z.made (subst₂ (λ x y. Stands (Take x y) (Take v p ∷ [])) (sym s.0) (sym s.1) Now))
                c;
          }

  -- the first queues of a node
  of_node : {D : ℕ → ℕ → Type 0} {m : ℕ} (v : ℕ) → 1 ≤ v → v ≤ g.nodes → (k : ℕ) → k ≤ length ((network_of g).ports v) → Made D m →
      Made (λ u q. D u q ⊎ ((u ≡ v) × (q < k))) (m + k)
  of_node v lo hi zero le z = weaker (λ u q a c. ⊎_elim (λ d. d) (λ s. let lt = s.1 in absurd (omega (arith, lt))) c) (omega arith) z
  of_node v lo hi (suc k) le z =
      weaker
      (λ u q a c.
      ⊎_elim (λ d. inl (inl d))
      (λ s. ⊎_elim (λ (e : q ≡ k). inr (s.0, e)) (λ ne. let lt = s.1 in inl (inr (s.0, omega (arith, lt, ne)))) (cases_eq q k))
      c)
      (omega arith)
      (one_more v k (record { some = lo; node = hi; port = le }) (of_node v lo hi k (omega (arith, le)) z))

  none_yet : Made (λ u q. u ≤ 0) 0
  none_yet = record {
    made = [];
    takes = All-nil IsTake;
    few = omega arith;
    next = w;
    leads = refl;
    is = n;
    has = λ u q a le some. absurd (let lo = a.some in omega (arith, lo, le));
  }

  -- the queues of the first nodes
  of_nodes : (k : ℕ) → k ≤ g.nodes → Made (λ u q. u ≤ k) (sum_below k (λ i. length ((network_of g).ports (suc i))))
  of_nodes zero le = none_yet
  of_nodes (suc k) le =
      weaker (λ u q a c. ⊎_elim (λ (e : u ≡ suc k). inr (e, subst (λ y. q < length ((network_of g).ports y)) e a.port))
      (λ ne. inl (omega (arith, c, ne))) (cases_eq u (suc k)))
      (omega arith)
      (of_node (suc k) (omega arith) le (length ((network_of g).ports (suc k))) (omega arith) (of_nodes k (omega (arith, le))))

pub laps_are : LapsAre
laps_are g w n =
    let z = of_nodes g n.graph w n g.nodes (omega arith) in
    record {
      events = z.made;
      takes = z.takes;
      few = let f = z.few in let t = twice_links g n.graph in omega (arith, f, t);
      next = z.next;
      leads = z.leads;
      taken = λ v p at some. z.has v p at (at.node) some;
    }
