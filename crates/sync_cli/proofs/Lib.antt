mod NoJob
