-- Tests for equality decide equality.
use Rattle.std.proofs.Common.{◌≡◌, ◌==◌, ◌&&◌, ◌<◌, ℕ, Bool, true, List, length, get_or, Option, Some, None, refl, ap, eq-eqb}
use Rattle.std.specs.Bool.{Decides}
use Rattle.std.specs.Cmp.{booleans_Decides}
use Rattle.std.specs.Option.{option_eq}
use Rattle.std.proofs.Math.Bool.{beq}
use Rattle.std.proofs.lemmas.Bool.{and_parts, eqb-true}
use Rattle.std.proofs.lemmas.Bool.Decides.{Decides-and, Decides-eqb}
use Rattle.std.proofs.lemmas.List.{same_lists}
use Rattle.std.proofs.lemmas.Option.{same_Some}
use Rattle.ghs_graph.specs.declared.key.Key.{Key}
use Rattle.ghs_node.specs.declared.head.Head.{Head}
use Rattle.ghs_node.specs.declared.mark.Mark.{Mark}
use Rattle.ghs_node.specs.declared.mark.Mark.TheVariants.{Basic, Branch, Rejected}
use Rattle.ghs_node.specs.declared.message.Phase.{Phase}
use Rattle.ghs_node.specs.declared.message.Phase.TheVariants.{Sleeping, Find, Found}
use Rattle.ghs_node.specs.Words.{key_eq}
use Rattle.ghs_node.specs.contracts.mark.Mark as marks
use Rattle.ghs_node.specs.contracts.message.Phase as phases
use denote.Enum.Bare.{sameb}

pub key_decides : (k l : Key) → Decides (key_eq k l) (k ≡ l)
key_decides k l = (
  λ t. equal (and_parts (k.weight == l.weight) ((k.a == l.a) && (k.b == l.b)) t),
  λ e.
      let p = ap (λ (k : Key). k.weight) e in
      let q = ap (λ (k : Key). k.a) e in let r = ap (λ (k : Key). k.b) e in rw (eq-eqb k.weight l.weight p, eq-eqb k.a l.a q, eq-eqb k.b l.b r) refl,
)
  where
    equal : ((k.weight == l.weight) ≡ true) × (((k.a == l.a) && (k.b == l.b)) ≡ true) → k ≡ l
    equal h =
        let g = and_parts (k.a == l.a) (k.b == l.b) h.1 in
        λ i. record { weight = eqb-true k.weight l.weight h.0 i; a = eqb-true k.a l.a g.0 i; b = eqb-true k.b l.b g.1 i }

pub mark_decides : (m k : Mark) → Decides (sameb marks.the_type m k) (m ≡ k)
mark_decides Basic Basic = (λ t. refl, λ e. refl)
mark_decides Basic _ = (λ t. absurd cc, λ e. absurd cc)
mark_decides Branch Branch = (λ t. refl, λ e. refl)
mark_decides Branch _ = (λ t. absurd cc, λ e. absurd cc)
mark_decides Rejected Rejected = (λ t. refl, λ e. refl)
mark_decides Rejected _ = (λ t. absurd cc, λ e. absurd cc)

pub phase_decides : (p q : Phase) → Decides (sameb phases.the_type p q) (p ≡ q)
phase_decides Sleeping Sleeping = (λ t. refl, λ e. refl)
phase_decides Sleeping _ = (λ t. absurd cc, λ e. absurd cc)
phase_decides Find Find = (λ t. refl, λ e. refl)
phase_decides Find _ = (λ t. absurd cc, λ e. absurd cc)
phase_decides Found Found = (λ t. refl, λ e. refl)
phase_decides Found _ = (λ t. absurd cc, λ e. absurd cc)

pub option_decides : {A : Type 0} {E : A → A → Bool} → ((a b : A) → Decides (E a b) (a ≡ b)) → (x y : Option A) → Decides (option_eq E x y) (x ≡ y)
option_decides d None None = (λ t. refl, λ e. refl)
option_decides d None (Some b) = (λ t. absurd cc, λ e. absurd cc)
option_decides d (Some a) None = (λ t. absurd cc, λ e. absurd cc)
option_decides d (Some a) (Some b) = (λ t. ap Some ((d a b).0 t), λ e. (d a b).1 (same_Some a b e))

abbrev best_eq : ℕ × Key → ℕ × Key → Bool
best_eq b c = (b.0 == c.0) && key_eq b.1 c.1

best_decides : (b c : ℕ × Key) → Decides (best_eq b c) (b ≡ c)
best_decides b c =
    let d = Decides-and _ _ (Decides-eqb b.0 c.0) (key_decides b.1 c.1) in
    (λ t. (let h = d.0 t in λ i. (h.0 i, h.1 i)), λ e. d.1 (ap (λ (p : ℕ × Key). p.0) e, ap (λ (p : ℕ × Key). p.1) e))

abbrev head_eq : Head → Head → Bool
head_eq g h =
    (g.level == h.level) &&
    (sameb phases.the_type g.phase h.phase &&
    (beq g.halted h.halted &&
    (option_eq (λ a b. a == b) g.in_branch h.in_branch &&
    ((g.find_count == h.find_count) &&
    (option_eq (λ a b. a == b) g.probe h.probe && (option_eq key_eq g.name h.name && option_eq best_eq g.best h.best))))))

pub head_decides : (g h : Head) → Decides (head_eq g h) (g ≡ h)
head_decides g h =
    let d =
    Decides-and _ _ (Decides-eqb g.level h.level)
    (Decides-and _ _ (phase_decides g.phase h.phase)
    (Decides-and _ _ (booleans_Decides g.halted h.halted)
    (Decides-and _ _ (option_decides Decides-eqb g.in_branch h.in_branch)
    (Decides-and _ _ (Decides-eqb g.find_count h.find_count)
    (Decides-and _ _ (option_decides Decides-eqb g.probe h.probe)
    (Decides-and _ _ (option_decides key_decides g.name h.name)
    (option_decides best_decides g.best h.best))))))) in (
      λ t.
          (let e = d.0 t in
          λ i.
          record {
            level = e.0 i;
            phase = e.1.0 i;
            halted = e.1.1.0 i;
            in_branch = e.1.1.1.0 i;
            find_count = e.1.1.1.1.0 i;
            probe = e.1.1.1.1.1.0 i;
            name = e.1.1.1.1.1.1.0 i;
            best = e.1.1.1.1.1.1.1 i;
          }),
      λ e.
          d.1 (
            ap (λ (x : Head). x.level) e,
            (
              ap (λ (x : Head). x.phase) e,
              (
                ap (λ (x : Head). x.halted) e,
                (
                  ap (λ (x : Head). x.in_branch) e,
                  (
                    ap (λ (x : Head). x.find_count) e,
                    (ap (λ (x : Head). x.probe) e, (ap (λ (x : Head). x.name) e, ap (λ (x : Head). x.best) e)),
                  ),
                ),
              ),
            ),
          ),
    )

-- lists of keys with the same key at each place
pub keys_alike : (ks ls : List Key) → length ks ≡ length ls → ((k : ℕ) → (d : Key) → k < length ks → get_or ks k d ≡ get_or ls k d) → ks ≡ ls
keys_alike ks ls e f = same_lists ks ls e f
