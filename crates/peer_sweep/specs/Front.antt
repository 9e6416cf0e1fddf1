-- What the lines of a sweep begin with: a network's name, where several networks are swept.
use Rattle.std.specs.Prelude.{ℕ, codes, List, [], ◌++◌}
use Rattle.csv.specs.Writing.{default_writer, field_text}
use Rattle.json.specs.Print.{quoted}
use Rattle.ghs_choices.specs.declared.form.Form.{Form}
use Rattle.ghs_choices.specs.declared.form.Form.TheVariants.{Text, Json}

-- an object of JSON that has been opened, with a name as its first member
abbrev pub opened_with : List ℕ → List ℕ
opened_with name = codes "{\"graph\":" ++ quoted name

-- what the lines of a network begin with: its name, as a field of comma separated values or as a string of JSON, and a comma
abbrev pub front_of : Form → List ℕ → List ℕ
front_of Text name = field_text default_writer name ++ codes ","
front_of Json name = opened_with name ++ codes ","

-- what lines without a name begin with
abbrev pub bare_front : Form → List ℕ
bare_front Text = []
bare_front Json = codes "{"
