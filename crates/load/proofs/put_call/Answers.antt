-- Each call by its kind; nothing is written of a call that is never drawn.
use Rattle.load.proofs.LoadLaws.{append_room, flip_room}
use Rattle.load.proofs.put_call.Goals as goal

pub put_numbered-requires : goal.put_numbered-requires
put_numbered-requires c = append_room c.args.call _ _ _ c.in-Append.is _ _ c.requires

pub put_numbered-requires-in-Flip : goal.put_numbered-requires-in-Flip
put_numbered-requires-in-Flip c = flip_room c.args.call _ _ _ c.in-Flip.is _ _ c.requires
