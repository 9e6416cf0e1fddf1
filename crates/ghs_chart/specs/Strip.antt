-- A strip of a panel: into which parts of the bound the values of a figure fall.
use Rattle.std.specs.Prelude.{ℕ, zero, suc, ◌+◌, ◌-◌, ◌*◌, ◌/◌, max, cond, eqb, nat_lt, codes, decimal, List, [], ◌++◌, filter, length, slice_index}
use Rattle.ghs_chart.specs.Around.{around}
use Rattle.ghs_chart.specs.declared.strip.TheConstants.{COLUMNS}
use Rattle.ghs_chart.specs.declared.texts.TheConstants.{AXIS, STRIP, STRIP_END, STRIP_NAME, VALUES}

-- the numbers below the bound stand in 150 columns, the bound and what is beyond in the last; where the bound is 0 all stand in the first
abbrev pub column_of : ℕ → ℕ → ℕ
column_of bound n = cond (nat_lt n bound) (n * COLUMNS / bound) (cond (eqb bound 0) 0 (COLUMNS - 1))

-- how many values stand in a column
abbrev pub count_in : ℕ → List ℕ → ℕ → ℕ
count_in bound values column = length (filter (λ n. eqb (column_of bound n) column) values)

-- the greatest of the counts of the first columns
abbrev pub most_of : ℕ → ℕ → List ℕ → ℕ
most_of zero bound values = 0
most_of (suc n) bound values = max (most_of n bound values) (count_in bound values n)

abbrev pub most_in : ℕ → List ℕ → ℕ
most_in bound values = most_of COLUMNS bound values

-- how high a bar is, 40 where it is the highest: rounded up, so that one value is seen
abbrev pub height : ℕ → ℕ → ℕ
height count most = (40 * count + (most - 1)) / most

-- the bar of a column, upwards from the middle of its foot; none where no value stands in it
unfoldable pub bar : ℕ → ℕ → ℕ → List ℕ
bar column count most = cond (eqb count 0) [] (around (codes "M") (4 * column + 2) (codes " 0v-") ++ decimal (height count most))

-- the bars of the first columns
abbrev pub bars : ℕ → ℕ → List ℕ → ℕ → List ℕ
bars zero bound values most = []
bars (suc n) bound values most = bars n bound values most ++ bar n (count_in bound values n) most

-- the median of numbers in rising order, the lower one of two
abbrev pub median : List ℕ → ℕ
median rising = slice_index rising ((length rising - 1) / 2)

-- the axis, and on it the bars
unfoldable pub axis : ℕ → List ℕ → List ℕ
axis bound rising = AXIS.now ++ bars COLUMNS bound rising (most_in bound rising)

-- the least, the median and the greatest
unfoldable pub values_text : List ℕ → List ℕ
values_text rising =
    around VALUES.now (slice_index rising 0) (codes " ")
    ++ around (codes "/ ") (median rising) (codes " ")
    ++ around (codes "/ ") (slice_index rising (length rising - 1)) STRIP_END.now

-- the strip of a figure, by its name, whose bars stand at this height of the panel
unfoldable pub strip_text : List ℕ → ℕ → ℕ → List ℕ → List ℕ
strip_text name bottom bound rising =
    around STRIP.now bottom STRIP_NAME.now
    ++ name
    ++ axis bound rising
    ++ values_text rising
