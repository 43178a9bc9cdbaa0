use Rattle.vk_sample_parts.proofs.files.ProofFilesWrittenFiles.pieces.Goals as goal

pub returns-in-0 : goal.returns-in-0
returns-in-0 c = rw (c.in-0.is) (c.file_pieces.ensures c.args.self.now.head.now)
