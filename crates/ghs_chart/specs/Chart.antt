-- Charts: a panel for each network, with a strip for each figure of its runs.
use Rattle.std.specs.Prelude.{ℕ, ◌+◌, ◌*◌, Bool, ◌||◌, cond, eqb, chars, codes, decimal, encode_utf8, List, ◌++◌}
use Rattle.std.specs.Char.{is_control}
use Rattle.std.specs.List.{flat_map}
use Rattle.ghs_chart.specs.declared.panel.Caption.{Caption}
use Rattle.ghs_chart.specs.declared.texts.TheConstants.{CAPTION, CHAIN, FONT, GROUP_END, LEGEND, NAME, OPENING, PANEL, PANEL_END, PAPER, PAPER_END, PUT_BACK, SCALE, SENT, SIZE, STYLE, TEXT_END}
use Rattle.ghs_chart.specs.Around.{around}
use Rattle.ghs_chart.specs.Strip.{strip_text}

-- how high a chart of so many panels is, and where the panel at a place begins
abbrev pub height_of : ℕ → ℕ
height_of panels = panels * 200 + 50

abbrev pub top_of : ℕ → ℕ
top_of place = place * 200 + 44

-- the opening tag of a picture of this height
unfoldable pub opening : ℕ → List ℕ
opening high = around OPENING.now high SIZE.now ++ decimal high ++ FONT.now

-- what all of it stands on
unfoldable pub paper : ℕ → List ℕ
paper high = around PAPER.now high PAPER_END.now

-- what a chart begins with: its size, colours, paper and legend
unfoldable pub chart_head : ℕ → List ℕ
chart_head panels = opening (height_of panels) ++ STYLE.now ++ paper (height_of panels) ++ LEGEND.now

-- a character for which a question mark stands: a control character, or one of the two others that XML can't hold
abbrev pub is_masked : ℕ → Bool
is_masked c = is_control c || (eqb c 0xFFFE || eqb c 0xFFFF)

-- a character of a text as SVG holds it; of > it could hold some alone, but none behind two closing brackets
abbrev pub escaped : ℕ → List ℕ
escaped c =
    cond (is_masked c) (codes "?")
    (cond (eqb c 38) (codes "&amp;") (cond (eqb c 60) (codes "&lt;") (cond (eqb c 62) (codes "&gt;") (encode_utf8 c))))

-- the name that these bytes spell
unfoldable pub name_text : List ℕ → List ℕ
name_text name = NAME.now ++ flat_map escaped (chars name) ++ TEXT_END.now

unfoldable pub caption_text : Caption → List ℕ
caption_text c =
    around CAPTION.now c.nodes (codes ", ")
    ++ around (codes "links ") c.links (codes ", ")
    ++ around (codes "runs ") c.runs (codes ", ")
    ++ around (codes "bound ") c.bound TEXT_END.now

-- the strip of the longest chains, and the end of the panel
unfoldable pub last_strip : ℕ → List ℕ → List ℕ
last_strip bound chains = strip_text CHAIN.now 170 bound chains ++ GROUP_END.now

-- the scale, and above it the strips of what was sent, put back, and of the longest chains, each in rising order
unfoldable pub strips : ℕ → List ℕ → List ℕ → List ℕ → List ℕ
strips bound sent requeued chains =
    SCALE.now ++ strip_text SENT.now 66 bound sent ++ strip_text PUT_BACK.now 118 bound requeued ++ last_strip bound chains

-- the panel at a place: name, caption, scale and strips
unfoldable pub panel_text : ℕ → List ℕ → Caption → List ℕ → List ℕ → List ℕ → List ℕ
panel_text place name c sent requeued chains =
    around PANEL.now (top_of place) PANEL_END.now
    ++ name_text name
    ++ caption_text c
    ++ strips c.bound sent requeued chains
