-- What hearing and sending leave as it was.
use Rattle.std.proofs.Common.{◌≡◌, ◌≢◌, ℕ, suc, Bool, true, false, List, [], ◌∷◌, length, refl, sym, ◌∙◌, ap, arith, ⊎_elim}
use Rattle.std.proofs.Math.Path.{fun_ext}
use Rattle.std.proofs.lemmas.Bool.{cases_eq}
use Rattle.peer_network.specs.declared.event.Event.{Event}
use Rattle.peer_network.specs.declared.event.Event.TheVariants.{Wake, Take}
use Rattle.peer_network.specs.Events.{event_node}
use Rattle.peer_network.specs.Network.{Network}
use Rattle.peer_network.specs.Updates.{put, put_at}
use Rattle.peer_network.proofs.lemmas.Updates.{put_other, put_same}
use Rattle.peer_chains.specs.Chains.{Chains, heard, hears, sent, sent_on, taken}

-- what is put where it stands changes nothing
pub put_at_none : {A : Type 0} (f : ℕ → ℕ → A) (v p : ℕ) (x : A) → x ≡ f v p → put_at f v p x ≡ f
put_at_none {A} f v p x e = fun_ext (λ u. fun_ext (λ q. ⊎_elim (here u q) (there u q) (cases_eq u v)))
  where
    here : (u q : ℕ) → u ≡ v → put_at f v p x u q ≡ f u q
    here u q h =
        rw h (ap (λ (g : ℕ → A). g q) (put_same f v (put (f v) p x))
        ∙ ⊎_elim (λ (k : q ≡ p). rw k (put_same (f v) p x ∙ e)) (λ ne. put_other (f v) p q x ne) (cases_eq q p))

    there : (u q : ℕ) → u ≢ v → put_at f v p x u q ≡ f u q
    there u q ne = ap (λ (g : ℕ → A). g q) (put_other f v u (put (f v) p x) ne)

-- the numbers of other nodes
taken_node : (v p : ℕ) (asleep f : Bool) (ts : List ℕ) (c : Chains) (u : ℕ) → u ≢ v → (taken v p asleep f ts c).node u ≡ c.node u
taken_node v p asleep f [] c u ne = refl
taken_node v p asleep f (t ∷ ts) c u ne = put_other c.node v u (heard f asleep (c.node v) t) ne

pub hears_node : (e : Event) (asleep f : Bool) (c : Chains) (u : ℕ) → u ≢ event_node e → (hears e asleep f c).node u ≡ c.node u
hears_node (Wake v) asleep f c u ne = refl
hears_node (Take v p) asleep f c u ne = taken_node v p asleep f (c.queue v p) c u ne

-- the only number of a queue, which its node defers while it is awake
pub turned_alone : (c : Chains) (v p : ℕ) (l : List ℕ) → c.queue v p ≡ l → length l ≡ 1 → taken v p false true l c ≡ c
turned_alone c v p [] q one = refl
turned_alone c v p (t ∷ []) q one = λ i. record { node = nodes i; queue = put_at_none c.queue v p (t ∷ []) (sym q) i }
  where
    nodes : put c.node v (c.node v) ≡ c.node
    nodes = fun_ext (λ u. ⊎_elim (λ (h : u ≡ v). rw h (put_same c.node v (c.node v))) (λ ne. put_other c.node v u (c.node v) ne) (cases_eq u v))
turned_alone c v p (t ∷ x ∷ l) q one = absurd (let z : suc (suc (length l)) ≡ 1 = one in omega (arith, z))

-- sends touch no number of a node
pub sent_node : {M : Type 0} (g : Network) (v : ℕ) (ss : List (ℕ × M)) (c : Chains) → (sent g v ss c).node ≡ c.node
sent_node g v [] c = refl
sent_node g v (s ∷ ss) c = sent_node g v ss (sent_on g v s.0 c)
