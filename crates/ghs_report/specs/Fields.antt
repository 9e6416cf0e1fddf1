-- Fields of lines of comma separated values, and the words that stand in them.
use Rattle.std.specs.Prelude.{ℕ, zero, suc, Bool, true, false, List, [], ◌++◌, codes, decimal}
use Rattle.std.specs.List.{flat_map}
use Rattle.peer_network.specs.declared.wake_set.WakeSet.{WakeSet}
use Rattle.peer_network.specs.declared.wake_set.WakeSet.TheVariants.{All, First, Listed}

-- a comma and a number
unfoldable pub field : ℕ → List ℕ
field n = codes "," ++ decimal n

-- a comma and a word
unfoldable pub word_field : List ℕ → List ℕ
word_field word = codes "," ++ word

-- a listed node; 0 stands for none
abbrev pub waker : ℕ → List ℕ
waker zero = []
waker (suc n) = codes "+" ++ decimal (suc n)

-- the name of a wake set
abbrev pub wake_word : WakeSet → List ℕ
wake_word All = codes "all"
wake_word First = codes "first"
wake_word (Listed wakers) = codes "nodes" ++ flat_map waker wakers.nodes

-- how a run ended: it halted, or its turns were used
abbrev pub end_word : Bool → List ℕ
end_word true = codes "halted"
end_word false = codes "turns"
