-- The graph of a load: units with headers are scanned, compiled and linked.
use Rattle.std.specs.Prelude.{codes}
use Rattle.meaning_graph.specs.Graphs.{Text}

unfoldable pub graph_text : Text
graph_text = codes "type hdr simple;\ntype c simple is hdr;\ntype sm simple;\ntype inc simple;\ntype o simple;\ntype exe simple;\ntype units list of c;\ntype objs list of o;\nsuffix .h hdr;\nsuffix .c c;\nsuffix .sm sm;\nparam debug;\ntool scan 1 from hdr to inc run \"scan\";\ntool cc 1 from c to o run \"cc\" uses debug closure inc;\nread rd from sm to units;\neach comp from units to objs;\ntool ld 1 from objs to exe run \"ld\";\n"
