-- A report as a list of lines, each without its newline: what `section_into` and `end_into` write.
use Rattle.std.specs.Prelude.{ℕ, ◌+◌, ◌^◌, ◌<◌, ◌≤◌, ◌≡◌, true, Option, None, Some, List, [], ◌∷◌, ◌++◌, ⊤, codes, map}
use Rattle.std.specs.Fmt.{decimal}
use Rattle.ppp_base.specs.declared.hook_target.HookTarget.{HookTarget}
use Rattle.ppp_base.specs.declared.hook_target.HookTarget.TheVariants as target
use Rattle.ppp_mark.specs.declared.mark.Mark.{Mark}
use Rattle.ppp_mark.specs.declared.report.LogName.{LogName}
use Rattle.ppp_mark.specs.declared.report.LogName.TheVariants.{Link, Unit as OfUnit}
use Rattle.ppp_mark.specs.Report.{end_text, section_text}
use Rattle.ppp_mark.specs.Table.{name_of, stands_in}

-- the numbers fit their fields
abbrev pub Fits : Mark → Type 0
Fits m = (m.x < 2 ^ 8) × (m.y < 2 ^ 16) × (m.z < 2 ^ 32) × (m.time < 2 ^ 64)

-- time, name, x, y, z
abbrev pub mark_word : Mark → List ℕ
mark_word m =
    decimal m.time ++ (codes " " ++ (name_of m.kind ++ (codes " " ++ (decimal m.x ++ (codes " " ++ (decimal m.y ++ (codes " " ++ decimal m.z)))))))

-- the first line of a section
abbrev pub heading : LogName → List ℕ
heading (Link link) = codes "link " ++ decimal link
heading (OfUnit unit) = codes "unit " ++ decimal unit

abbrev pub status_word : ℕ → List ℕ
status_word status = codes "status " ++ decimal status

abbrev pub end_word : List ℕ
end_word = codes "end"

abbrev pub status_lines : Option ℕ → List (List ℕ)
status_lines None = []
status_lines (Some status) = status_word status ∷ []

-- whose log it is, its marks, the oldest first, and of a link its status
pub record Section : Type 0 where
  pub name : LogName
  pub marks : List Mark
  pub status : Option ℕ

-- the lines of a report
abbrev pub report_lines : List Section → List (List ℕ)
report_lines [] = end_word ∷ []
report_lines (s ∷ sections) = heading s.name ∷ (map mark_word s.marks ++ (status_lines s.status ++ report_lines sections))

-- its octets
abbrev pub report_text : List Section → List ℕ
report_text [] = end_text
report_text (s ∷ sections) = section_text s.name s.marks s.status ++ report_text sections

abbrev pub target_of : LogName → HookTarget
target_of (Link link) = target.Link link
target_of (OfUnit unit) = target.Unit unit

-- each mark fits, and is of a kind of that object
abbrev pub AreFit : LogName → List Mark → Type 0
AreFit name [] = ⊤
AreFit name (m ∷ marks) = Fits m × (stands_in (target_of name) m.kind ≡ true) × AreFit name marks

-- Links are numbered from 1 to 16, units from 0 to 15.
abbrev pub IsObject : LogName → Type 0
IsObject (Link link) = (1 ≤ link) × (link ≤ 16)
IsObject (OfUnit unit) = unit ≤ 15

-- Whether a section of this name may stand behind those of the links up to `links` and of units below `least`.
abbrev pub MayCome : ℕ → ℕ → LogName → Type 0
MayCome links least (Link link) = (least ≡ 0) × (link ≡ links + 1) × (link ≤ 16)
MayCome links least (OfUnit unit) = (least ≤ unit) × (unit ≤ 15)

-- A link has a status, and a unit has marks and none.
abbrev pub Fills : LogName → List Mark → Option ℕ → Type 0
Fills (Link link) marks None = ⊥
Fills (Link link) marks (Some status) = status < 256
Fills (OfUnit unit) [] status = ⊥
Fills (OfUnit unit) (m ∷ marks) None = ⊤
Fills (OfUnit unit) (m ∷ marks) (Some status) = ⊥

-- how many links and which units stand then
abbrev pub links_after : ℕ → LogName → ℕ
links_after links (Link link) = link
links_after links (OfUnit unit) = links

abbrev pub least_after : ℕ → LogName → ℕ
least_after least (Link link) = least
least_after least (OfUnit unit) = unit + 1

-- Links stand from the next one on without gaps, and behind them units rise.
abbrev pub AreSections : ℕ → ℕ → List Section → Type 0
AreSections links least [] = ⊤
AreSections links least (s ∷ sections) =
    MayCome links least s.name × Fills s.name s.marks s.status × AreFit s.name s.marks
    × AreSections (links_after links s.name) (least_after least s.name) sections
