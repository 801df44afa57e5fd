use Rattle.odin_commands.proofs.write.put_reply.Goals as goal

pub returns-in-RefusedType : goal.returns-in-RefusedType
returns-in-RefusedType c = rw (c.in-RefusedType.is) (rw c.as_slice-in-RefusedType.ensures at c.write_named-in-RefusedType.ensures)

pub returns-in-RefusedPath : goal.returns-in-RefusedPath
returns-in-RefusedPath c = rw (c.in-RefusedPath.is) c.write_counted-in-RefusedPath.ensures
