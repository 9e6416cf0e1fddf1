-- Drafts that go on, and what they give.
use Rattle.std.proofs.Common.{◌≡◌, ℕ, [], ◌∷◌, ◌++◌, Bool, true, false, Option, Some, None, Result, Ok, Err, IfOk, IsSome, refl, sym, ◌∙◌, ap, subst, cond, append-nil, append_assoc}
use Rattle.peer_machine.specs.Rules.{Outgoing}
use Rattle.boruvka_node.specs.declared.change.Change.{Change}
use Rattle.boruvka_node.specs.declared.draft.Draft.{Draft}
use Rattle.boruvka_node.specs.declared.message.Message.{Message}
use Rattle.boruvka_node.specs.declared.message.Message.TheVariants.{Connect}
use Rattle.boruvka_node.specs.State.{State}
use Rattle.boruvka_node.specs.Reaction.{Outcome, silent, says, and_then, core_if_asked, goes_out}
use Rattle.boruvka_node.specs.Entering.{after}
use Rattle.boruvka_node.specs.Draft.{change_of, drafted, goes_on, is_done, Gives}

says_says : (ss ts : Outgoing Message) (o : Option Outcome) → says ss (says ts o) ≡ says (ss ++ ts) o
says_says ss ts None = refl
says_says ss ts (Some o) = ap (λ (us : Outgoing Message). Some (record o { sends = us })) (sym (append_assoc ss ts o.sends))

-- what goes out goes out
pub sent : (d d' : Draft) (ts : Outgoing Message) (o : Option Outcome) → d'.sends.items ≡ d.sends.items ++ ts → goes_on d (says ts o) ≡ goes_on d' o
sent d d' ts o e = says_says d.sends.items ts o ∙ ap (λ (ss : Outgoing Message). says ss o) (sym e)

-- another draft with the same sends
pub same_sends : (d d' : Draft) (o : Option Outcome) → d'.sends.items ≡ d.sends.items → goes_on d o ≡ goes_on d' o
same_sends d d' o e = ap (λ (ss : Outgoing Message). says ss o) (sym e)

pub says_nothing : (o : Option Outcome) → says [] o ≡ o
says_nothing None = refl
says_nothing (Some o) = refl

-- a draft that sends nothing goes on as it is
blank_says : (d : Draft) (o : Option Outcome) → d.sends.items ≡ [] → goes_on d o ≡ o
blank_says d o none = ap (λ (ss : Outgoing Message). says ss o) none ∙ says_nothing o

-- what a draft is, where there is one
pub if_ok : {A E : Type 0} (r : Result A E) (P Q : A → Type 0) → ((x : A) → P x → Q x) → IfOk r P → IfOk r Q
if_ok (Ok x) P Q f h = f x h
if_ok (Err e) P Q f h = tt

module _ (n : State) where
  pub gives_done : (d : Draft) → Gives n (is_done n d) d
  gives_done d = ap (λ (ss : Outgoing Message). record { state = drafted n d; sends = ss }) (append-nil d.sends.items)

  pub gives : (o p : Option Outcome) (d : Draft) → o ≡ p → Gives n p d → Gives n o d
  gives o p d e g = subst (λ x. Gives n x d) (sym e) g

  -- where there is no rule, any draft will do
  pub gives_if : (d : Draft) (ss : Outgoing Message) (c : Bool) (o : Option Outcome) → Gives n (says ss o) d → Gives n (says ss (cond c o None)) d
  gives_if d ss true o g = g
  gives_if d ss false o g = tt

  pub gives_when : (d : Draft) (c : Bool) (o : Option Outcome) → Gives n o d → Gives n (cond c o None) d
  gives_when d true o g = g
  gives_when d false o g = tt

  -- one thing, and then another
  pub gives_then : (d e : Draft) (o : Option Outcome) (f : State → Option Outcome) → Gives n o d → Gives n (goes_on d (f (drafted n d))) e
      → Gives n (and_then o f) e
  gives_then d e None f g h = tt
  gives_then d e (Some o) f g h = subst (λ (x : Outcome). Gives n (says x.sends (f x.state)) e) (sym g) h

  -- a blank draft is where a reaction begins
  pub gives_begun : (d e : Draft) (f : State → Option Outcome) → drafted n d ≡ n → d.sends.items ≡ [] → Gives n (goes_on d (f (drafted n d))) e
      → Gives n (f n) e
  gives_begun d e f same none h = gives (f n) (goes_on d (f (drafted n d))) e (ap f (sym same) ∙ sym (blank_says d (f (drafted n d)) none)) h

  pub answered : (o : Option Outcome) (d : Draft) → Gives n o d → IsSome o → o ≡ Some (record { state = drafted n d; sends = d.sends.items })
  answered None d g s = absurd cc
  answered (Some o) d g s = ap (λ (x : Outcome). Some x) g

  -- the last that goes out
  pub sent_done : (d e : Draft) (ts : Outgoing Message) → change_of e ≡ change_of d → e.sends.items ≡ d.sends.items ++ ts
      → goes_on d (says ts (silent (drafted n d))) ≡ is_done n e
  sent_done d e ts same more = sent d e ts (silent (drafted n d)) more ∙ ap (λ (c : Change). goes_on e (silent (after n c))) (sym same)

  -- the Connect is out, and the port may be a core
  pub connected : {E : Type 0} (d : Draft) (p : ℕ) (r : Result Draft E)
      → IfOk r (λ e. change_of e ≡ record { head = record d.head { out = Some p }; port = d.port; entry = d.entry })
      → IfOk r (λ e. e.sends.items ≡ d.sends.items ++ (p, Connect d.head.level) ∷ [])
      → IfOk r (λ e. goes_on d (goes_out (drafted n d) p) ≡ goes_on e (core_if_asked (drafted n e) p))
  connected d p (Err x) same more = tt
  connected d p (Ok e) same more =
      let c : Change = record { head = record d.head { out = Some p }; port = d.port; entry = d.entry } in
      sent d e ((p, Connect d.head.level) ∷ []) (core_if_asked (after n c) p) more
      ∙ ap (λ (x : Change). goes_on e (core_if_asked (after n x) p)) (sym same)
