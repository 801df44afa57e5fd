-- Worked examples of what a page has.
use Rattle.std.specs.Prelude.{◌≡◌, true, false, [], ◌∷◌, Some, None, codes}
use Rattle.object_values.specs.declared.messages.Status.TheVariants.{Warning, Error}
use Rattle.build_view.specs.Boxes.{box_frame, box_front, box_title, column_name, drawing_front, edge_of, light, rest_words}
use Rattle.build_view.specs.Escaped.{words}
use Rattle.build_view.specs.Pages.{bar_box, bar_title, message_row, place_words, slot_count, step_of, target_row, width_of}
use Rattle.build_view.specs.declared.boxes.PageBox.{PageBox}
use Rattle.build_view.specs.declared.runs.Run.{Run}

-- all five bytes of markup, an entity in the text itself, and a control
pub record Texts : Type 0 where
  pub markup : words (codes "<a b='c'>\"") ≡ codes "&lt;a b=&#39;c&#39;&gt;&quot;"
  pub twice : words (codes "&lt;") ≡ codes "&amp;lt;"
  pub control : words (27 ∷ codes "<") ≡ codes "\\x1b&lt;"

abbrev a_run : Run
a_run = record { slot = 2; label = codes "ld <a>"; from = 3500; to = 9000 }

-- a build of 12,345 microseconds has steps of 13
pub record Bars : Type 0 where
  pub step : step_of 12345 ≡ 13
  pub box : bar_box 13 a_run ≡ codes "<svg x=\"269\" y=\"32\" width=\"423\" height=\"15\">"
  pub title : bar_title a_run ≡ codes "<title>ld &lt;a&gt;: 5 ms, after 3 ms</title>"
  pub thin : width_of 13 12 ≡ 1
  pub slots : slot_count (a_run ∷ []) ≡ 3

pub record Rows : Type 0 where
  pub built : target_row (record { name = codes "a"; file = codes "b"; status = Some Warning; messages = 2 })
      ≡ codes "<tr><td>a</td><td class=\"warning\">warning</td><td>b</td><td>2</td></tr>\n"
  pub unbuilt : target_row (record { name = codes "a"; file = codes "b"; status = None; messages = 0 })
      ≡ codes "<tr><td>a</td><td class=\"unbuilt\">unbuilt</td><td>b</td><td>0</td></tr>\n"
  pub placed : place_words (Some (record { path = codes "a.c"; line = 7; column = 12 })) ≡ codes "a.c:7:12"
  pub message : message_row (record { message = record { place = None; level = Error; text = codes "<" }; line = codes "a;" })
      ≡ codes "<tr><td class=\"error\">error</td><td></td><td>&lt;</td><td><code>a;</code></td></tr>\n"

-- the object of number 2, in the second column and the third row, which is made from those of the numbers 0 and 1
abbrev an_object : PageBox
an_object = record { number = 2; label = codes "a.c:o"; status = Some Warning; spot = record { column = 1; row = 2 }; uses = 0 ∷ 1 ∷ [] }

pub record Boxes : Type 0 where
  pub front : box_front an_object ≡ codes "<g id=\"o2\" class=\"warning u0 u1\"><a href=\"#o2\">"
  pub title : box_title an_object ≡ codes "<title>a.c:o: warning</title>"
  pub source : box_title (record an_object { status = None }) ≡ codes "<title>a.c:o: source</title>"
  pub frame : box_frame an_object.spot
      ≡ codes "<svg x=\"180\" y=\"72\" width=\"150\" height=\"18\"><rect width=\"150\" height=\"18\"/><text x=\"3\" y=\"12\">"
  pub lights : light an_object ≡ codes "#o2:target ~ .u2 rect { fill: #fe6 }\n"
  pub edge : edge_of (record { from = record { column = 0; row = 0 }; to = record { column = 1; row = 2 } })
      ≡ codes "<line x1=\"150\" y1=\"33\" x2=\"180\" y2=\"81\"/>\n"
  pub column : column_name (record { name = codes "c"; column = 1 }) ≡ codes "<text x=\"180\" y=\"14\">c</text>\n"
  pub size : drawing_front (an_object ∷ []) ≡ codes "<svg width=\"360\" height=\"96\">\n"
  pub whole : rest_words true ≡ []
  pub rest : rest_words false ≡ codes "<p>More objects aren't shown.</p>\n"
