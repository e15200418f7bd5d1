-- The markup of a page, in three tables, each of which goes on where the one before it ends.
use Rattle.std.specs.Prelude.{ℕ, List, [], codes}
use Rattle.html_text.specs.Elements.{more_in}
use Rattle.page_text.specs.declared.markup.Piece.{Piece}
use Rattle.page_text.specs.declared.markup.Piece.TheVariants.{Head, StyleOpen, StyleClose, AsRead, AfterScript, Tables, Row, RowEnd, Rules, RulesEnd, DepLink, CindLink, LinkText, LinkEnd, Break, Bar, Slash, BarEnd, NoBar, DepSection, CindSection, Heading, HeadingEnd, Violations, Groups, Keys, CountsEnd, SectionEnd, GroupTable, CaptionEnd, MissingTable, Columns, TableEnd, FirstCell, Cell, CellEnd, LastCellEnd, WideCell, More, MoreEnd, MoreGroups, MoreGroupsEnd, Small, Dot, SmallEnd, Blank, Star, Colon, Arrow, Equals, SideOpen, SideMid, SideClose, In, MustBe, OneOf, NoneOf, AnyValues, Where, Checks, NoChecks, ChecksOpen, Item, ItemEnd, ChecksClose, Foot}

-- between the words and the numbers of a line
unfoldable pub word_markup : Piece → List ℕ
word_markup Small = codes "<small>"
word_markup Dot = codes "."
word_markup SmallEnd = codes "</small> "
word_markup Blank = codes " "
word_markup Star = codes "* "
word_markup Colon = codes ": "
word_markup Arrow = codes "&rarr; "
word_markup Equals = codes "= "
word_markup AnyValues = codes "any values "
word_markup Where = codes "where "
word_markup SideOpen = codes "[ "
word_markup SideMid = codes "; "
word_markup SideClose = codes "] "
word_markup In = codes "in "
word_markup MustBe = codes "must be "
word_markup OneOf = codes "must be one of "
word_markup NoneOf = codes "must be none of "
word_markup other = []

-- in a section, and what stands there too
unfoldable pub section_markup : Piece → List ℕ
section_markup DepSection = codes "<section id=\"d"
section_markup CindSection = codes "<section id=\"c"
section_markup Heading = codes "\"><h3>"
section_markup HeadingEnd = codes "</h3>\n<p>"
section_markup Violations = codes "</p>\n<p>Violations: "
section_markup Groups = codes ". Groups: "
section_markup Keys = codes ". Missing keys: "
section_markup CountsEnd = codes ".</p>\n"
section_markup SectionEnd = codes "</section>\n"
section_markup GroupTable = codes "<table><caption>"
section_markup CaptionEnd = codes "</caption><thead><tr><th>"
section_markup MissingTable = codes "<table><thead><tr><th>"
section_markup Columns = codes "</th><th class=\"n\">Rows</th><th>Row ids</th></tr></thead><tbody>\n"
section_markup TableEnd = codes "</tbody></table>\n"
section_markup FirstCell = codes "<tr><td>"
section_markup Cell = codes "<td>"
section_markup CellEnd = codes "</td>"
section_markup LastCellEnd = codes "</td></tr>\n"
section_markup WideCell = codes "<tr><td colspan=\"3\">"
section_markup More = codes "<em>"
section_markup MoreEnd = codes "</em>"
section_markup MoreGroups = codes "<p>"
section_markup MoreGroupsEnd = codes "</p>\n"
section_markup other = word_markup other

-- all of it
unfoldable pub markup : Piece → List ℕ
markup Head = codes "<!DOCTYPE html>\n<html lang=\"en\"><head><meta charset=\"utf-8\"><meta name=\"viewport\" content=\"width=device-width, initial-scale=1\"><title>"
markup StyleOpen = codes "</title><style>\n"
markup StyleClose = codes "</style></head><body>\n<h1>"
markup AsRead = codes "</h1>\n<p>The tables as they were read, without the script. Violations: <b>"
markup AfterScript = codes "</h1>\n<p>The tables after the script. Violations: <b>"
markup Tables = codes "</b></p>\n<h2>Tables</h2>\n<div class=\"wide\"><table>\n<tr><th>Table</th><th>File</th><th class=\"n\">Rows read</th><th class=\"n\">Rows now</th></tr>\n"
markup Row = codes "<tr>"
markup RowEnd = codes "</tr>\n"
markup Rules = codes "</table></div>\n<p><small>Row ids are the numbers of the records of the file. Rows with * came by the script.</small></p>\n<h2>Rules</h2>\n<div class=\"wide\"><table>\n<tr><th>Rule</th><th class=\"n\">Violations</th><th class=\"w\"></th></tr>\n"
markup RulesEnd = codes "</table></div>\n"
markup DepLink = codes "<a href=\"#d"
markup CindLink = codes "<a href=\"#c"
markup LinkText = codes "\">"
markup LinkEnd = codes "</a>"
markup Break = codes "<br>"
markup Bar = codes "<td class=\"w\"><i style=\"width:calc(100%*"
markup Slash = codes "/"
markup BarEnd = codes ")\"></i></td></tr>\n"
markup NoBar = codes "<td class=\"w\"></td></tr>\n"
markup Checks = codes "<h2>What check finds</h2>\n"
markup NoChecks = codes "<p>Nothing.</p>\n"
markup ChecksOpen = codes "<p><small>In the rules, and in the tables as they were read.</small></p>\n<ul>\n"
markup Item = codes "<li>"
markup ItemEnd = codes "</li>\n"
markup ChecksClose = codes "</ul>\n"
markup Foot = codes "</body></html>\n"
markup other = section_markup other

-- how it looks, on a screen and on paper
unfoldable pub style : List ℕ
style = codes ":root{color-scheme:light dark;--ink:#1c2733;--soft:#5b6b7b;--line:#d5dde5;--back:#fff;--chip:#eef3f8;--bar:#c4442e;--odd:#ffd9cf}\n@media(prefers-color-scheme:dark){:root{--ink:#e6edf3;--soft:#9aa9b8;--line:#39434d;--back:#14191f;--chip:#222b35;--bar:#e8705b;--odd:#6b2a1e}}\nbody{margin:0 auto;max-width:60rem;padding:1rem;color:var(--ink);background:var(--back);font:16px/1.45 system-ui,sans-serif}\nh1{font-size:1.5rem;margin:.2rem 0}\nh2{font-size:1.2rem;margin:2rem 0 .4rem}\nh3{font-size:1.05rem;margin:0}\nh1,h3,p,td,caption{overflow-wrap:anywhere}\np{margin:.3rem 0}\na{color:inherit}\n.wide{overflow-x:auto}\ntable{border-collapse:collapse;width:100%}\nth,td{padding:.25rem .6rem .25rem 0;border-bottom:1px solid var(--line);text-align:left;vertical-align:top}\nth,caption,small,em{color:var(--soft);font-weight:normal;font-style:normal;font-size:.85rem}\n.n{text-align:right;white-space:nowrap;width:5rem}\n.w{width:30%}\n.w i{display:block;height:.9rem;margin-top:.25rem;min-width:3px;border-radius:2px;background:var(--bar)}\ncode{background:var(--chip);border-radius:3px;padding:0 .3rem;font-size:.9em;white-space:pre-wrap}\nb,mark{white-space:pre-wrap;color:inherit}\ntd b,caption b{color:var(--ink);border-bottom:1px dotted var(--soft)}\nb:empty::after,mark:empty::after{content:\"empty\";font-style:italic;font-weight:normal;color:var(--soft)}\nmark{background:var(--odd);border-radius:3px;padding:0 .3rem}\nsection{border-top:3px solid var(--line);margin-top:1.6rem;padding-top:.6rem}\nsection table{margin-top:.8rem;border-left:4px solid var(--chip)}\nsection th,section td,caption{padding-left:.6rem}\ncaption{text-align:left;padding-bottom:.2rem}\nul{list-style:none;margin:.3rem 0;padding:0}\nli{padding:.15rem 0;border-bottom:1px solid var(--line);white-space:pre-wrap;overflow-wrap:anywhere}\n@media print{body{max-width:none;padding:0;font-size:10pt}.wide{overflow:visible}tr,h3,caption{break-inside:avoid;break-after:avoid}mark,code,.w i{-webkit-print-color-adjust:exact;print-color-adjust:exact}}\n"

-- how many more there are, where the first so many are shown
abbrev pub more_text : Piece → ℕ → ℕ → Piece → List ℕ
more_text front first size behind = more_in (markup front) first size (markup behind)
