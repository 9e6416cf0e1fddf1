-- The laws of Spoken, with their proofs. Nothing here has to be believed.
use Rattle.std.proofs.Common.{◌≡◌, ℕ, false, refl}
use Rattle.std.proofs.lemmas.Bool.{true≢false}
use Rattle.peer_words.specs.Touched.{is_touched}
use Rattle.echo.specs.declared.node.Change.{Change}
use Rattle.echo.specs.declared.node.Change.TheVariants.{Joins, Awaits}
use Rattle.echo.specs.declared.node.Message.{Message}
use Rattle.echo.specs.declared.node.Message.TheVariants.{Explore, Echo}
use Rattle.echo.specs.declared.node.Node.{Node}
use Rattle.echo.specs.Echo.{echo, after}
use Rattle.echo.specs.Words.{kind_word, mark_of, says, touched_by}

pub named : (m : Message) → (says m).kind ≡ kind_word (echo.kind_of m)
named Explore = refl
named Echo = refl

pub keeps : (n : Node) (c : Change) (p : ℕ) → is_touched (touched_by c) p ≡ false → mark_of (after n c) p ≡ mark_of n p
keeps n (Joins parent awaits) p h = absurd (true≢false h)
keeps n (Awaits k) p h = refl
